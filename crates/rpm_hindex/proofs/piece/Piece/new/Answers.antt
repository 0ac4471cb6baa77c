use Rattle.rpm_hindex.proofs.Packing.{packed_none}
use Rattle.rpm_hindex.proofs.piece.Piece.new.Goals as goal

pub invariant_of-result : goal.invariant_of-result
invariant_of-result c = rw (c.new.ensures.items, c.new-2.ensures.items) packed_none
