use Rattle.std.proofs.Common.{◌≡◌}
use Rattle.rpm_outside.proofs.Mixing.{mixed_units}
use Rattle.rpm_outside.proofs.steps.mixed.Given as goal

abbrev pub invariant-loop-k : goal.invariant-loop-k
invariant-loop-k l = l.mixed.items ≡ mixed_units l.seed l.at l.units l.file l.k
