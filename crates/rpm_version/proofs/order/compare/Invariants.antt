use Rattle.std.proofs.Common.{◌≡◌, length}
use Rattle.rpm_version.proofs.Vocabulary.{version_order}
use Rattle.rpm_version.proofs.order.compare.Given as goal

abbrev pub invariant-loop-left : goal.invariant-loop-left
invariant-loop-left l = version_order l.fn.a l.fn.b ≡ version_order l.a l.b

abbrev pub decreases-loop-left : goal.decreases-loop-left
decreases-loop-left l = length l.a
