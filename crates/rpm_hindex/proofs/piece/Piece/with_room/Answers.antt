use Rattle.rpm_hindex.proofs.Packing.{packed_none}
use Rattle.rpm_hindex.proofs.piece.Piece.with_room.Goals as goal

pub invariant_of-result : goal.invariant_of-result
invariant_of-result c = rw (c.in_ok-with_capacity.ensures.items, c.in_ok-with_capacity-2.ensures.items) packed_none
