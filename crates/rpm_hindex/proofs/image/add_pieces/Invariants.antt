use Rattle.std.proofs.Common.{vec_len}
use Rattle.rpm_hindex.proofs.Vocabulary.{left_rows}
use Rattle.rpm_hindex.proofs.Pieces.{AddsPieces}
use Rattle.rpm_hindex.proofs.image.add_pieces.Given as goal

abbrev pub invariant-loop-piece : goal.invariant-loop-piece
invariant-loop-piece l = AddsPieces (left_rows l.fn.pieces.items) l.fn.buckets l.fn.bytes.items l.bytes.items l.left.items

abbrev pub decreases-loop-piece : goal.decreases-loop-piece
decreases-loop-piece l = vec_len l.left
