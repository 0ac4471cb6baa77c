use Rattle.std.proofs.Common.{◌≡◌, ℕ, ◌<◌, None}
use Rattle.rpm_header.proofs.Vocabulary.{fault_at, section_of}
use Rattle.rpm_header.proofs.view.View.checked_with_sums.Given as goal

abbrev pub invariant-loop-i : goal.invariant-loop-i
invariant-loop-i l = record {
  section : l.ends ≡ section_of l.il l.blob;
  earlier : (k : ℕ) → k < l.i → fault_at l.il l.blob k ≡ None;
}
