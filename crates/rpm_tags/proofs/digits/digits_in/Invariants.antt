use Rattle.std.proofs.Common.{◌≡◌, ◌≤◌, ◌++◌, length, drop}
use Rattle.rpm_tags.proofs.Vocabulary.{decimal}
use Rattle.rpm_tags.proofs.digits.digits_in.Given as goal

abbrev pub invariant-loop-left : goal.invariant-loop-left
invariant-loop-left l =
    (length (decimal l.left) ≤ l.start) × (l.start ≤ 20) × (length l.bytes ≡ 20) × (decimal l.left ++ drop l.start l.bytes ≡ decimal l.number)

abbrev pub decreases-loop-left : goal.decreases-loop-left
decreases-loop-left l = l.left
