use Rattle.std.proofs.Common.{◌-◌, length, drop}
use Rattle.rpm_qfeval.proofs.Vocabulary.{concat, Upto}
use Rattle.rpm_qfeval.proofs.pieces.put_joined.Given as goal

abbrev pub invariant-loop-part : goal.invariant-loop-part
invariant-loop-part g l = Upto g.O.Sink (concat l.text) (concat (drop l.k l.text)) l.initial.sink l.sink

abbrev pub decreases-loop-part : goal.decreases-loop-part
decreases-loop-part g l = length l.text - l.k
