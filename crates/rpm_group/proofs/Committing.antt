-- The stages of a commit.
use Rattle.std.proofs.Common.{◌≡◌, inl, inr, ⊎_elim, ℕ, ◌+◌, ◌<◌, ◌≤◌, List, [], ◌∷◌, ◌++◌, length, refl, sym, ap, subst, ◌∙◌, arith, length-append}
use Rattle.rpm_outside.specs.declared.disk.Disk as disk
use Rattle.rpm_group.proofs.Vocabulary.{BeforeOrAfter, changed_leaves_more, changed_leaves_then, IsChangedInRange, Closed, Elapses, entries_kept, entries_then}
use Rattle.rpm_group.proofs.Vocabulary.{EntriesIn, Entry, Files, HeadsEndInZeros, Idx, IsCommitRecord, IsTransaction, laid_units, Layers, CrashChanges, CrashLeavesOnly, Log}
use Rattle.rpm_group.proofs.Vocabulary.{log_state, EntriesOfTable, one_more, OnlyAfter, Open, opened_is, Pkg, with_units, reopened_files, reopened_closed, reopened_open}
use Rattle.rpm_group.proofs.Vocabulary.{ReopensAs, started, torn_first, TornFile, without_log, with_entries, with_file}
use Rattle.rpm_group.proofs.Applied.{with_entries-append}
use Rattle.rpm_group.proofs.LoggedLaws.{covers_before, covers_behind}
use Rattle.rpm_group.proofs.LaidRuns.{logged_laid}
use Rattle.rpm_group.proofs.Orders.{heads_kept, heads_then}
use Rattle.rpm_group.proofs.Closes.{three_files, closed_sound, open_sound}

-- the entries of both files are a transaction
pub transaction_of : (held : Layers) (es fs : List Entry) → EntriesOfTable es Pkg held.pkg.table.items held.pkg.end
    → EntriesOfTable fs Idx held.idx.table.items held.idx.end → IsTransaction (es ++ fs) held
transaction_of held es fs pkg idx = record {
  pkg = λ i below is. covers_before es fs Pkg i (pkg.covers i below is);
  idx = λ i below is. covers_behind es fs Idx i (idx.covers i below is);
  whole = λ files.
      with_entries-append es fs files
      ∙ ap (λ (f : Files). with_entries fs f) (logged_laid es Pkg held.pkg.table.items held.pkg.end pkg held.pkg.past held.pkg.last files)
      ∙ logged_laid fs Idx held.idx.table.items held.idx.end idx held.idx.past held.idx.last
      (with_file Pkg (laid_units held.pkg.table.items held.pkg.end files.pkg) files);
  count = length-append es fs ∙ omega (arith, pkg.count, idx.count);
  order = record {
    pkg = es;
    idx = fs;
    joined = refl;
    pkg_runs = pkg.runs;
    idx_runs = idx.runs;
    pkg_count = pkg.count;
    idx_count = idx.count;
  };
}

-- and stand in the log one after the other
pub tail_of : (es fs : List Entry) (middle end upto : ℕ) (first last : Files) → EntriesIn es 1 middle first.log → EntriesIn fs middle end last.log
    → IsChangedInRange Log middle upto first last → EntriesIn (es ++ fs) 1 end last.log
tail_of es fs middle end upto first last one two changed =
    entries_then es fs 1 middle end last.log (entries_kept es 1 middle first.log last.log (λ i low high. changed.each i (inl high)) changed.no_shorter one) two

-- with heads that end in zeros
pub heads_of : (es fs : List Entry) (middle upto : ℕ) (first last : Files) → EntriesIn es 1 middle first.log → HeadsEndInZeros es 1 first.log
    → HeadsEndInZeros fs middle last.log → IsChangedInRange Log middle upto first last → HeadsEndInZeros (es ++ fs) 1 last.log
heads_of es fs middle upto first last placed one two changed =
    let same = λ (i : ℕ) (low : 1 ≤ i) (high : i < middle). changed.each i (inl high) in
    heads_then es fs 1 middle last.log (entries_kept es 1 middle first.log last.log same changed.no_shorter placed)
    (heads_kept es 1 middle first.log last.log same placed one) two

closed_reopens : (image files : Files) → image ≡ files → log_state files.log ≡ Closed → ReopensAs (without_log files) image
closed_reopens image files same closed = record {
  same = ap reopened_files same ∙ reopened_closed files closed;
  sound = closed_sound image.log (ap (λ (f : Files). log_state f.log) same ∙ closed);
}

-- a commit record that was written in part leaves the log closed, or open with these entries
opening_reopens : (commit_record : List ℕ) (entries : List Entry) (last : ℕ) (from image : Files) → IsCommitRecord commit_record (length entries) last
    → 0 < length entries
    → last < length from.log → EntriesIn entries 1 (last + 1) from.log → log_state from.log ≡ Closed → TornFile Log 0 (commit_record ∷ []) from image
    → BeforeOrAfter (without_log from) (with_entries entries (without_log from)) image
opening_reopens commit_record entries last from image g some below is closed torn = ⊎_elim
    (λ (same : image ≡ from). inl (closed_reopens image from same closed))
    (λ (same : image ≡ with_file Log (with_units 0 (commit_record ∷ []) from.log) from).
    let open_now : log_state image.log ≡ Open entries = ap (λ (f : Files). log_state f.log) same
    ∙ opened_is commit_record entries last from.log g some below is in
    inr (record {
      same = reopened_open image entries open_now ∙ ap (λ (f : Files). with_entries entries (without_log f)) same;
      sound = open_sound image.log entries open_now;
    }))
    (torn_first commit_record from image (omega (arith, below)) torn)

module _ {D : Type 0} (g : disk.Ghosts D) where
  -- two runs of writes to the log
  pub log_leaves : (one_end middle two_end end : ℕ) (old mid new : D) → 1 ≤ middle → one_end ≤ end → two_end ≤ end
      → ((image : Files) → g.left_since mid (g.moment mid) image → g.left_since mid (g.moment old) image)
      → CrashChanges g Log 1 one_end old mid → CrashChanges g Log middle two_end mid new
      → CrashChanges g Log 1 end old new
  log_leaves one_end middle two_end end old mid new low one_high two_high earlier one two =
      changed_leaves_then g Log 1 end old mid new earlier
      (changed_leaves_more g Log 1 one_end 1 end old mid (omega arith) one_high one)
      (changed_leaves_more g Log middle two_end 1 end mid new low two_high two)

  -- the log was written and is durable
  pub log_durable : (end : ℕ) (old new : D) (files now : Files) → ((image : Files) → g.left_since old (g.moment old) image → image ≡ files)
      → IsChangedInRange Log 1 end files now
      → CrashChanges g Log 1 end old new → ((image : Files) → g.left_since new (g.moment new) image → g.left_since new (g.moment old) image)
      → ((image : Files) → g.left_since new (g.moment new) image → image.log ≡ now.log)
      → (image : Files) → g.left_since new (g.moment new) image → image ≡ now
  log_durable end old new files now durable changed run earlier log image left =
      let was = run.each image (earlier image left) in
      let same : was.0 ≡ files = durable was.0 was.1 in
      three_files image now
      (ap (λ (f : Files). f.pkg) was.2.others ∙ ap (λ (f : Files). f.pkg) same ∙ sym (ap (λ (f : Files). f.pkg) changed.others))
      (ap (λ (f : Files). f.idx) was.2.others ∙ ap (λ (f : Files). f.idx) same ∙ sym (ap (λ (f : Files). f.idx) changed.others))
      (log image left)

  -- the commit record is written
  pub opening_leaves : (old new : D) (files : Files) (commit_record : List ℕ) (entries : List Entry) (last : ℕ)
      → IsCommitRecord commit_record (length entries) last
      → 0 < length entries → last < length files.log → EntriesIn entries 1 (last + 1) files.log → log_state files.log ≡ Closed
      → ((image : Files) → g.left_since old (g.moment old) image → image ≡ files)
      → OnlyAfter (TornFile Log 0 (commit_record ∷ [])) (g.left_since old (g.moment old)) (g.left_since new (g.moment new))
      → Elapses (g.moment old) (g.moment new) (g.left_since old) (g.left_since new)
      → CrashLeavesOnly g old new (BeforeOrAfter (without_log files) (with_entries entries (without_log files)))
  opening_leaves old new files commit_record entries last opens some below is closed durable images time =
      one_more g old old new (BeforeOrAfter (without_log files) (with_entries entries (without_log files)))
      (started g old (BeforeOrAfter (without_log files) (with_entries entries (without_log files)))
      (λ image left. inl (closed_reopens image files (durable image left) closed)))
      time
      (λ image left.
      let was = images image left in
      opening_reopens commit_record entries last files image opens some below is closed
      (subst (λ (f : Files). TornFile Log 0 (commit_record ∷ []) f image) (durable was.0 was.1) was.2))
