use Rattle.std.proofs.Common.{length}
use Rattle.rpm_qfeval.proofs.Vocabulary.{escaped_text, Upto}
use Rattle.rpm_qfeval.proofs.pieces.put_escaped.Given as goal

abbrev pub invariant-loop-run : goal.invariant-loop-run
invariant-loop-run g l = Upto g.O.Sink (escaped_text l.text) (escaped_text l.rest) l.initial.sink l.sink

abbrev pub decreases-loop-run : goal.decreases-loop-run
decreases-loop-run g l = length l.rest
