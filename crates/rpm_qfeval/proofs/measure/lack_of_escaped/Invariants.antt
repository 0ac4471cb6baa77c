use Rattle.std.proofs.Common.{◌≡◌, ◌-◌, length, drop}
use Rattle.rpm_qfeval.proofs.Vocabulary.{escaped_text}
use Rattle.rpm_qfeval.proofs.measure.lack_of_escaped.Given as goal

abbrev pub invariant-loop-byte : goal.invariant-loop-byte
invariant-loop-byte l = l.left - length (escaped_text (drop l.byte-index l.text)) ≡ l.width - length (escaped_text l.text)
