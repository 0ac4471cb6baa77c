use Rattle.std.proofs.Common.{arith, refl}
use Rattle.rpm_hindex.proofs.Packing.{packed_more, rows_more}
use Rattle.rpm_hindex.proofs.piece.Piece.add.Goals as goal

pub invariant_of-self-2 : goal.invariant_of-self-2
invariant_of-self-2 c =
    rw (c.in_ok-push.ensures.items, c.in_ok-extend_from_slice.ensures.items, c.in_ok-reserve.ensures.items, c.record_units-units.ensures)
    (packed_more c.self.inside.heads.items c.self.inside.keys.items c.args.key.now c.self.inside.live c.args.kind _ c.self.invariant
    (omega (arith, c.len-start.ensures)) refl c.requires.key
    (omega (arith, c.if-self-units.false, c.record_units-units.ensures)))

pub returns-clause-ok : goal.returns-clause-ok
returns-clause-ok c =
    rw (c.in_ok-push.ensures.items, c.in_ok-extend_from_slice.ensures.items, c.in_ok-reserve.ensures.items, ← c.self.view_is)
    (rows_more c.self.inside.heads.items c.self.inside.keys.items c.args.key.now c.self.inside.live c.args.kind _ c.self.invariant
    (omega (arith, c.len-start.ensures)) refl c.requires.key)
