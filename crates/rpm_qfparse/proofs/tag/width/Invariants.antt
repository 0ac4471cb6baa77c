use Rattle.std.proofs.Common.{◌≡◌, ◌≤◌, length}
use Rattle.rpm_qfparse.proofs.Vocabulary.{after_number, number_of}
use Rattle.rpm_qfparse.proofs.Widths.{number_from, after_digits}
use Rattle.rpm_qfparse.proofs.tag.width.Given as goal

abbrev pub decreases-loop-rest : goal.decreases-loop-rest
decreases-loop-rest l = length l.rest

abbrev pub invariant-loop-rest : goal.invariant-loop-rest
invariant-loop-rest l = (l.number ≤ 4096) × (number_from l.number l.rest ≡ number_of l.text) × (after_digits l.rest ≡ after_number l.text)
