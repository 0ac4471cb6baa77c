use Rattle.std.proofs.Common.{arith}
use Rattle.rpm_hindex.proofs.Pieces.{pieces_more}
use Rattle.rpm_hindex.proofs.rows.Rows.add_last.Goals as goal

pub invariant_of-self-2 : goal.invariant_of-self-2
invariant_of-self-2 c =
    let v = c.self.inside in
    rw c.in_ok-add.ensures.ok
    (pieces_more v.full.items v.last v.live c.record_units-units.result _ c.self.invariant c.record_units-units.ensures
    (omega (arith, c.if-self-units.false, c.record_units-units.ensures)))
