use Rattle.std.proofs.Common.{◌≡◌, take}
use Rattle.rpm_outside.proofs.Vocabulary.{bytes_of}
use Rattle.rpm_outside.proofs.steps.joined.Given as goal

abbrev pub invariant-loop-unit : goal.invariant-loop-unit
invariant-loop-unit l = l.bytes.items ≡ bytes_of (take l.unit-index l.units)
