-- What a crash leaves of the log behind a transaction, while the transaction is committed.
use Rattle.std.proofs.Common.{◌≡◌, inr, ℕ, ◌≤◌, IsTrue, List, refl, sym, ap, subst, ◌∙◌, arith}
use Rattle.rpm_outside.specs.declared.disk.Disk as disk
use Rattle.rpm_group.proofs.Vocabulary.{IsChangedInRange, Entry, Files, KeepsBehind, leaves_then, leaves_weaker, CrashChanges, CrashLeavesOnly, Log, NotLog, started, Units}
use Rattle.rpm_group.proofs.Vocabulary.{WasChanged, WasWithin, within_log}
use Rattle.rpm_group.proofs.Orders.{keeps_then}

pub keeps_none : (end : ℕ) (log : Units) → KeepsBehind end log log
keeps_none end log = record { same = λ i low. refl; no_shorter = omega arith; no_longer = omega arith }

changed_keeps : (first last end : ℕ) (old new : Files) → last ≤ end → IsChangedInRange Log first last old new → KeepsBehind end old.log new.log
changed_keeps first last end old new low changed = record {
  same = λ i high. changed.each i (inr (omega (arith, low, high)));
  no_shorter = changed.no_shorter;
  no_longer = omega (arith, low, changed.no_longer);
}

module _ {D : Type 0} (g : disk.Ghosts D) (told : IsTrue g.tells)
    (earlier : (disk : D) (s t : ℕ) (image : Files) → IsTrue g.tells → s ≤ t → t ≤ g.moment disk → g.left_since disk t image → g.left_since disk s image)
    (end : ℕ) (log : Units) where
  abbrev Behind : Files → Type 0
  Behind image = KeepsBehind end log image.log

  -- a range of the log is written
  write_behind : (old new : D) (first last : ℕ) → last ≤ end → ((image : Files) → g.left_since old (g.moment old) image → Behind image)
      → CrashChanges g Log first last old new → CrashLeavesOnly g old new Behind
  write_behind old new first last low here run =
      leaves_weaker g old new (WasChanged Log first last (g.left_since old (g.moment old))) Behind
      (λ image was. keeps_then end log was.0.log image.log (here was.0 was.1) (changed_keeps first last end was.0 image low was.2)) run

  -- nothing was done yet to files with this log
  pub none_behind : (old : D) (files : Files) → log ≡ files.log → ((image : Files) → g.left_since old (g.moment old) image → image ≡ files)
      → CrashLeavesOnly g old old Behind
  none_behind old files is durable =
      started g old Behind
      (λ image left. subst (λ (us : Units). KeepsBehind end log us) (is ∙ sym (ap (λ (f : Files). f.log) (durable image left))) (keeps_none end log))

  -- after what was done
  pub then_behind : (old mid new : D) (first last : ℕ) → last ≤ end → CrashLeavesOnly g old mid Behind → CrashChanges g Log first last mid new
      → CrashLeavesOnly g old new Behind
  then_behind old mid new first last low one run =
      leaves_then g old mid new Behind one
      (write_behind mid new first last low
      (λ image left. one.each image (earlier mid (g.moment old) (g.moment mid) image told one.later (omega arith) left)) run)

  -- entries are written
  pub entries_behind : (old mid new : D) (entries : List Entry) → NotLog entries → CrashLeavesOnly g old mid Behind
      → CrashLeavesOnly g mid new (WasWithin entries (g.left_since mid (g.moment mid))) → CrashLeavesOnly g old new Behind
  entries_behind old mid new entries not one run =
      leaves_then g old mid new Behind one
      (leaves_weaker g mid new (WasWithin entries (g.left_since mid (g.moment mid))) Behind
      (λ image was. subst (λ (us : Units). KeepsBehind end log us) (sym (within_log entries was.0 image not was.2))
      (one.each was.0 (earlier mid (g.moment old) (g.moment mid) was.0 told one.later (omega arith) was.1))) run)
