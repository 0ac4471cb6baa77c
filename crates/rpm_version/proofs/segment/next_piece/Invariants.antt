use Rattle.std.proofs.Common.{◌≡◌, ◌≤◌, length}
use Rattle.rpm_version.proofs.Vocabulary.{segments}
use Rattle.rpm_version.proofs.segment.next_piece.Given as goal

abbrev pub invariant-loop-byte : goal.invariant-loop-byte
invariant-loop-byte l = (segments l.rest ≡ segments l.text) × (length l.rest ≤ length l.text)

abbrev pub decreases-loop-byte : goal.decreases-loop-byte
decreases-loop-byte l = length l.rest
