use Rattle.std.proofs.Common.{◌≡◌}
use Rattle.rpm_outside.proofs.Vocabulary.{cut_up}
use Rattle.rpm_outside.proofs.steps.cut_up.Given as goal

abbrev pub invariant-loop-k : goal.invariant-loop-k
invariant-loop-k l = l.units.items ≡ cut_up l.k l.bytes
