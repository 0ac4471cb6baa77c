use Rattle.std.proofs.Common.{◌≡◌, length}
use Rattle.rpm_version.proofs.Vocabulary.{AllDigits, digits_value}
use Rattle.rpm_version.proofs.order.without_zeros.Given as goal

abbrev pub invariant-loop-rest : goal.invariant-loop-rest
invariant-loop-rest l = AllDigits 10 l.rest × (digits_value 10 l.rest ≡ digits_value 10 l.digits)

abbrev pub decreases-loop-rest : goal.decreases-loop-rest
decreases-loop-rest l = length l.rest
