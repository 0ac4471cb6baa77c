use Rattle.std.proofs.Common.{◌≡◌, ◌*◌, take, length}
use Rattle.rpm_outside.proofs.Vocabulary.{bytes_of}
use Rattle.rpm_outside.proofs.steps.copy_units.Given as goal

abbrev pub invariant-loop-k : goal.invariant-loop-k
invariant-loop-k l = record { size : length l.into ≡ 16 * length l.units; done : take (16 * l.k) l.into ≡ bytes_of (take l.k l.units) }
