use Rattle.std.proofs.Common.{length}
use Rattle.rpm_qfeval.proofs.Vocabulary.{base64_text, Upto}
use Rattle.rpm_qfeval.proofs.encoded.put_base64.Given as goal

abbrev pub invariant-loop-rest : goal.invariant-loop-rest
invariant-loop-rest g l = Upto g.O.Sink (base64_text l.bytes) (base64_text l.rest) l.initial.sink l.sink

abbrev pub decreases-loop-rest : goal.decreases-loop-rest
decreases-loop-rest g l = length l.rest
