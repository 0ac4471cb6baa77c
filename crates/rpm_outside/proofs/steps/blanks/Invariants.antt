use Rattle.std.proofs.Common.{◌≡◌, replicate}
use Rattle.rpm_outside.proofs.Vocabulary.{blank}
use Rattle.rpm_outside.proofs.steps.blanks.Given as goal

abbrev pub invariant-loop : goal.invariant-loop
invariant-loop l = l.units.items ≡ replicate l.counter blank
