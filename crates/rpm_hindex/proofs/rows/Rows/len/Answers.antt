use Rattle.std.proofs.Common.{length, List, ap, arith}
use Rattle.rpm_hindex.proofs.Vocabulary.{Row}
use Rattle.rpm_hindex.proofs.Pieces.{length_rows}
use Rattle.rpm_hindex.proofs.rows.Rows.len.Goals as goal

pub overflow_mul-result : goal.overflow_mul-result
overflow_mul-result c =
    let v = c.self.inside in
    let long = length_rows v.full.items v.last v.live c.self.invariant in
    omega (arith, long, c.len.ensures, c.self.invariant.count, c.self.invariant.most)

pub overflow_add-result : goal.overflow_add-result
overflow_add-result c =
    let v = c.self.inside in
    let long = length_rows v.full.items v.last v.live c.self.invariant in
    omega (arith, long, c.len.ensures, c.len-2.ensures, c.self.invariant.count, c.self.invariant.most)

pub returns : goal.returns
returns c =
    let v = c.self.inside in
    let long = length_rows v.full.items v.last v.live c.self.invariant in
    omega (arith, long, c.len.ensures, c.len-2.ensures, ap (λ (rows : List Row). length rows) c.self.view_is)
