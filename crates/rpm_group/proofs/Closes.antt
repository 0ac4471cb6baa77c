-- What a crash leaves while a log is closed.
use Rattle.std.proofs.Common.{◌≡◌, ⊎_elim, ℕ, ◌<◌, ◌≤◌, IsTrue, List, [], ◌∷◌, length, true, refl, sym, ap, subst, ◌∙◌, arith}
use Rattle.rpm_outside.specs.declared.disk.Disk as disk
use Rattle.rpm_group.proofs.Vocabulary.{blank_closed, Closed, closing, Elapses, entries_done, entries_log, Entry, Files, first_unit, is_blank_unit, IsOpen}
use Rattle.rpm_group.proofs.Vocabulary.{IsSound, leaves_weaker, CrashLeavesOnly, Log, log_not_log, log_state, LogState, NotLog, one_more, OnlyAfter, Open}
use Rattle.rpm_group.proofs.Vocabulary.{with_units, reopened_files, reopened_open, reopened_within, ReopensAs, started, sync_leaves, torn_first, TornFile}
use Rattle.rpm_group.proofs.Vocabulary.{unit_at, Units, without_log, unlogged_entries, WasWithin, with_entries, with_file, Within, within_log}

-- a log that is closed or open isn't malformed
pub closed_sound : (log : Units) → log_state log ≡ Closed → IsSound (log_state log)
closed_sound log is = subst IsSound (sym is) tt

pub open_sound : (log : Units) (entries : List Entry) → log_state log ≡ Open entries → IsSound (log_state log)
open_sound log entries is = subst IsSound (sym is) tt

pub closed_after : (files new : Files) (unit : List ℕ) → is_blank_unit unit ≡ true → new ≡ with_file Log (with_units 0 (unit ∷ []) files.log) files
    → log_state new.log ≡ Closed
closed_after files new unit blank is =
    blank_closed new.log (ap (λ (f : Files). is_blank_unit (unit_at f.log 0)) is ∙ ap is_blank_unit (first_unit unit files.log) ∙ blank)

-- a commit record of zeros that was written in part leaves the log closed, or as it was
closing_sound : (unit : List ℕ) (from image : Files) (entries : List Entry) → is_blank_unit unit ≡ true → 0 < length from.log
    → log_state from.log ≡ Open entries → TornFile Log 0 (unit ∷ []) from image → IsSound (log_state image.log)
closing_sound unit from image entries blank some is torn = ⊎_elim
    (λ (same : image ≡ from). open_sound image.log entries (ap (λ (f : Files). log_state f.log) same ∙ is))
    (λ (same : image ≡ with_file Log (with_units 0 (unit ∷ []) from.log) from). closed_sound image.log (closed_after from image unit blank same))
    (torn_first unit from image some torn)

module _ {D : Type 0} (g : disk.Ghosts D) where
  -- a sync after it leaves what was left before
  pub synced_leaves : IsTrue g.tells
      → ((disk : D) (s t : ℕ) (image : Files) → IsTrue g.tells → s ≤ t → t ≤ g.moment disk → g.left_since disk t image → g.left_since disk s image)
      → (old mid new : D) (P : Files → Type 0) → CrashLeavesOnly g old mid P → Elapses (g.moment mid) (g.moment new) (g.left_since mid) (g.left_since new)
      → ((image : Files) → g.left_since new (g.moment new) image → g.left_since mid (g.moment mid) image) → CrashLeavesOnly g old new P
  synced_leaves told earlier old mid new P run time images =
      sync_leaves g old mid new P run time images (λ image left. earlier mid (g.moment old) (g.moment mid) image told run.later (omega arith) left)

  -- the write of the commit record
  pub closing_leaves : (old new : D) (files : Files) (unit : List ℕ) (entries : List Entry) → is_blank_unit unit ≡ true → 0 < length files.log
      → log_state files.log ≡ Open entries → with_entries entries (without_log files) ≡ without_log files
      → ((image : Files) → g.left_since old (g.moment old) image → image ≡ files)
      → OnlyAfter (TornFile Log 0 (unit ∷ [])) (g.left_since old (g.moment old)) (g.left_since new (g.moment new))
      → Elapses (g.moment old) (g.moment new) (g.left_since old) (g.left_since new)
      → CrashLeavesOnly g old new (ReopensAs (without_log files))
  closing_leaves old new files unit entries blank some is done durable images time =
      one_more g old old new (ReopensAs (without_log files))
      (started g old (ReopensAs (without_log files)) (λ image left. record {
        same = ap reopened_files (durable image left) ∙ reopened_open files entries is ∙ done;
        sound = open_sound image.log entries (ap (λ (f : Files). log_state f.log) (durable image left) ∙ is);
      }))
      time
      (λ image left.
      let was = images image left in
      let torn : TornFile Log 0 (unit ∷ []) files image = subst (λ (f : Files). TornFile Log 0 (unit ∷ []) f image) (durable was.0 was.1) was.2 in
      record {
        same = closing unit files image entries blank some is done torn;
        sound = closing_sound unit files image entries blank some is torn;
      })

  -- the entries, before it
  pub written_leaves : (old new : D) (files : Files) (entries : List Entry) → log_state files.log ≡ Open entries
      → ((image : Files) → g.left_since old (g.moment old) image → image ≡ files)
      → CrashLeavesOnly g old new (WasWithin entries (g.left_since old (g.moment old)))
      → CrashLeavesOnly g old new (ReopensAs (reopened_files files))
  written_leaves old new files entries is durable run =
      leaves_weaker g old new (WasWithin entries (g.left_since old (g.moment old))) (ReopensAs (reopened_files files))
      (λ image was.
      let within : Within entries files image = subst (λ (f : Files). Within entries f image) (durable was.0 was.1) was.2 in
      record {
        same = reopened_within files image entries is within;
        sound = open_sound image.log entries
            (ap log_state (within_log entries files image (log_not_log files.log entries is) within) ∙ is);
      })
      run

pub three_files : (a b : Files) → a.pkg ≡ b.pkg → a.idx ≡ b.idx → a.log ≡ b.log → a ≡ b
three_files a b p x l =
    ap (λ (u : Units). record { pkg = u; idx = a.idx; log = a.log }) p
    ∙ ap (λ (u : Units). record { pkg = b.pkg; idx = u; log = a.log }) x
    ∙ ap (λ (u : Units). record { pkg = b.pkg; idx = b.idx; log = u }) l

pub open_as : (state : LogState) (entries : List Entry) → state ≡ Open entries → IsOpen state
open_as state entries is = subst IsOpen (sym is) refl

module _ {D : Type 0} (g : disk.Ghosts D) where
  -- the entries are written and the two files are durable
  pub applied_durable : (old new : D) (files now : Files) (entries : List Entry) → NotLog entries → now ≡ with_entries entries files
      → ((image : Files) → g.left_since old (g.moment old) image → image ≡ files)
      → CrashLeavesOnly g old new (WasWithin entries (g.left_since old (g.moment old)))
      → ((image : Files) → g.left_since new (g.moment new) image → g.left_since new (g.moment old) image)
      → ((image : Files) → g.left_since new (g.moment new) image → image.pkg ≡ now.pkg)
      → ((image : Files) → g.left_since new (g.moment new) image → image.idx ≡ now.idx)
      → (image : Files) → g.left_since new (g.moment new) image → image ≡ now
  applied_durable old new files now entries not is durable run earlier pkg idx image left =
      let was = run.each image (earlier image left) in
      three_files image now (pkg image left) (idx image left)
      (within_log entries was.0 image not was.2 ∙ ap (λ (f : Files). f.log) (durable was.0 was.1) ∙ sym (entries_log entries files not)
      ∙ ap (λ (f : Files). f.log) (sym is))

-- the files once the entries of their log are written
module _ (files mid : Files) (entries : List Entry) (is : log_state files.log ≡ Open entries) (written : mid ≡ with_entries entries files) where
  not : NotLog entries
  not = log_not_log files.log entries is

  pub mid_log : mid.log ≡ files.log
  mid_log = ap (λ (f : Files). f.log) written ∙ entries_log entries files not

  pub mid_open : log_state mid.log ≡ Open entries
  mid_open = ap log_state mid_log ∙ is

  pub mid_done : with_entries entries (without_log mid) ≡ without_log mid
  mid_done = ap (λ (f : Files). with_entries entries (without_log f)) written ∙ entries_done entries files not ∙ ap without_log (sym written)

  pub mid_stands : without_log mid ≡ reopened_files files
  mid_stands = ap without_log written ∙ unlogged_entries entries files not ∙ sym (reopened_open files entries is)
