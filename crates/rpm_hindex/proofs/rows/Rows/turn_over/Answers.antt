use Rattle.std.proofs.Common.{sym, ◌∙◌}
use Rattle.rpm_hindex.proofs.Pieces.{pieces_turned}
use Rattle.rpm_hindex.proofs.rows.Rows.turn_over.Goals as goal

pub invariant_of-self-2 : goal.invariant_of-self-2
invariant_of-self-2 c =
    let v = c.self.inside in
    rw (c.push_reserved.ensures.items, c.replace-full.ensures.after, c.in_ok-next.ensures, c.replace-full.ensures.value, c.in_ok-reserve.ensures.items)
    (pieces_turned v.full.items v.last v.live c.self.invariant (sym c.len.ensures ∙ c.if-len-ne-FULL.false))
