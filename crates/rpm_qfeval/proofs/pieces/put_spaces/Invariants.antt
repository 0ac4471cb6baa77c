use Rattle.std.proofs.Common.{replicate}
use Rattle.rpm_qfeval.proofs.Vocabulary.{Upto}
use Rattle.rpm_qfeval.proofs.pieces.put_spaces.Given as goal

abbrev pub invariant-loop-left : goal.invariant-loop-left
invariant-loop-left g l = Upto g.O.Sink (replicate l.count 32) (replicate l.left 32) l.initial.sink l.sink

abbrev pub decreases-loop-left : goal.decreases-loop-left
decreases-loop-left g l = l.left
