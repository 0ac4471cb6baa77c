use Rattle.std.proofs.Common.{◌≡◌, ◌+◌, ◌<◌, length, sym, refl, ◌∙◌, arith}
use Rattle.rpm_blocks.proofs.Vocabulary.{end_of_range, IsRange, Range, range_at}
use Rattle.rpm_blocks.proofs.Parts.{read_at, joined_above}
use Rattle.rpm_blocks.proofs.runs.join_above.Goals as goal

-- the run that was taken out is the one that was looked at, which begins where the range ends
pub returns-clause-same : goal.returns-clause-same
returns-clause-same c =
    let l = c.args.runs.now.items in
    let i = c.args.at in
    let r = c.args.range in
    let lt : i < length l = omega (arith, c.requires.gap.in_range) in
    let x : Range = c.remove-run.result in
    let is : x ≡ range_at l i = read_at l i x lt c.remove-run.ensures.value in
    let read = read_at l i c.index.result.now lt c.index.ensures in
    let whole : Range = record { start = r.start; count = r.count + x.count } in
    let touch : end_of_range r ≡ x.start = rw (is, ← read) (sym (c.if-index-end.false ∙ c.end.ensures)) in
    rw c.remove-run.ensures.items (joined_above l c.requires.apart i lt x is r whole refl touch (omega (arith, touch)))

-- both end by the limit, so their blocks are few enough
pub overflow_add-result : goal.overflow_add-result
overflow_add-result c =
    let l = c.args.runs.now.items in
    let i = c.args.at in
    let lt : i < length l = omega (arith, c.requires.gap.in_range) in
    let x : Range = c.remove-run.result in
    let is : x ≡ range_at l i = read_at l i x lt c.remove-run.ensures.value in
    let run : IsRange x = rw is (c.requires.apart.ranges i lt) in
    omega (arith, run.bounded, c.requires.range.bounded)
