use Rattle.std.proofs.Common.{◌≡◌, length}
use Rattle.rpm_select.proofs.Vocabulary.{is_member}
use Rattle.rpm_select.proofs.piece.is_member.Given as goal

abbrev pub invariant-loop-rest : goal.invariant-loop-rest
invariant-loop-rest l = is_member l.byte l.rest ≡ is_member l.byte l.members

abbrev pub decreases-loop-rest : goal.decreases-loop-rest
decreases-loop-rest l = length l.rest
