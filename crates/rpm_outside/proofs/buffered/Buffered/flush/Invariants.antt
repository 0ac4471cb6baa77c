use Rattle.std.proofs.Common.{length, ◌-◌}
use Rattle.rpm_outside.proofs.Vocabulary.{held_bytes, inner}
use Rattle.rpm_outside.proofs.Buffering.{Handed}
use Rattle.rpm_outside.proofs.buffered.Buffered.flush.Given as goal

abbrev pub invariant-loop-self : goal.invariant-loop-self
invariant-loop-self g l = Handed g.O.Sink (inner l.initial.self) (held_bytes l.initial.self)
    (inner l.self) (held_bytes l.self)

abbrev pub decreases-loop-self : goal.decreases-loop-self
decreases-loop-self g l = length l.self.held.items - l.self.gone
