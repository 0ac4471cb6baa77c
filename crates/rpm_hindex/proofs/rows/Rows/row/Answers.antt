use Rattle.std.proofs.Common.{◌≡◌, ℕ, ◌-◌, ◌<◌, ◌≤◌, ◌*◌, ◌/◌, ◌%◌, [], length, List, sym, ap, ◌∙◌, arith}
use Rattle.std.proofs.lemmas.List.{get_or_default}
use Rattle.rpm_hindex.proofs.Vocabulary.{Row, row_nth}
use Rattle.rpm_hindex.proofs.Pieces.{length_rows, row_in_full, row_in_last}
use Rattle.rpm_hindex.proofs.rows.Rows.row.Goals as goal

pub row_in_piece-requires-else-piece-len : goal.row_in_piece-requires-else-piece-len
row_in_piece-requires-else-piece-len c =
    let v = c.self.inside in
    let long = length_rows v.full.items v.last v.live c.self.invariant in
    omega (arith, long, c.requires, c.len.ensures, c.len-else-piece-len.ensures, c.if-piece-len.false, ap (λ (rows : List Row). length rows) c.self.view_is)

pub returns-then-piece-len-clause-row : goal.returns-then-piece-len-clause-row
returns-then-piece-len-clause-row c =
    let v = c.self.inside in
    let i = c.args.i in
    let below : i / 16384 < length v.full.items = omega (arith, c.if-piece-len.true, c.len.ensures) in
    c.row_in_piece.ensures.row
    ∙ ap (λ (rows : List Row). row_nth rows (i % 16384))
    (c.index.ensures ∙ get_or_default v.full.items (i / 16384) c.index.result.now [] below)
    ∙ sym (row_in_full v.full.items v.last v.live c.self.invariant i below)
    ∙ ap (λ (rows : List Row). row_nth rows i) c.self.view_is

pub returns-else-piece-len-clause-row : goal.returns-else-piece-len-clause-row
returns-else-piece-len-clause-row c =
    let v = c.self.inside in
    let i = c.args.i in
    let from : 16384 * length v.full.items ≤ i = omega (arith, c.if-piece-len.false, c.len.ensures) in
    let at : i - 16384 * c.len-else-piece-len.result ≡ i - 16384 * length v.full.items = omega (arith, c.len-else-piece-len.ensures) in
    c.row_in_piece-else-piece-len.ensures.row
    ∙ ap (λ (j : ℕ). row_nth v.last j) at
    ∙ sym (row_in_last v.full.items v.last v.live c.self.invariant i from)
    ∙ ap (λ (rows : List Row). row_nth rows i) c.self.view_is
