use Rattle.std.proofs.Common.{◌≡◌, ◌-◌, length, drop}
use Rattle.rpm_qfeval.proofs.Vocabulary.{concat, escaped_text}
use Rattle.rpm_qfeval.proofs.measure.lack_of_quoted.Given as goal

abbrev pub invariant-loop-part : goal.invariant-loop-part
invariant-loop-part l = l.left - length (escaped_text (concat (drop l.k l.text))) ≡ l.width - length (escaped_text (concat l.text))

abbrev pub decreases-loop-part : goal.decreases-loop-part
decreases-loop-part l = length l.text - l.k
