use Rattle.rpm_hindex.proofs.Packing.{packed_reversed, rows_reversed}
use Rattle.rpm_hindex.proofs.piece.Piece.reverse.Goals as goal

pub invariant_of-self : goal.invariant_of-self
invariant_of-self c = rw c.reverse.ensures.items (packed_reversed c.self.inside.heads.items c.self.inside.keys.items c.self.inside.live c.self.invariant)

pub returns : goal.returns
returns c = rw (c.reverse.ensures.items, ← c.self.view_is) (rows_reversed c.self.inside.keys.items c.self.inside.heads.items)
