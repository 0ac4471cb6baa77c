use Rattle.std.proofs.Common.{◌≡◌, ◌+◌, ◌-◌, ◌<◌, length, subst, sym, refl, ◌∙◌, arith}
use Rattle.rpm_blocks.proofs.Vocabulary.{end_of_range, IsGap, Range, range_at}
use Rattle.rpm_blocks.proofs.Parts.{read_at, joined_below, gap_joined_below}
use Rattle.rpm_blocks.proofs.runs.join_below.Goals as goal

pub returns-clause-gap : goal.returns-clause-gap
returns-clause-gap c =
    let l = c.args.runs.now.items in
    let i = c.args.at - 1 in
    let lt : i < length l = omega (arith, c.requires.gap.in_range) in
    let x : Range = c.remove-run.result in
    let is : x ≡ range_at l i = read_at l i x lt c.remove-run.ensures.value in
    let read = read_at l i c.index.result.now lt c.index.ensures in
    let whole : Range = record { start = x.start; count = x.count + c.args.range.count } in
    let touch : end_of_range x ≡ c.args.range.start = rw (is, ← read) (sym c.end.ensures ∙ c.if-end-range.false) in
    let here : i + 1 ≡ c.args.at = omega arith in
    let gap = subst (λ at. IsGap 0 0 l c.args.range at) (sym here) c.requires.gap in
    rw c.remove-run.ensures.items (gap_joined_below l c.requires.apart i lt x is c.args.range whole gap refl (omega (arith, touch)))

pub returns-clause-same : goal.returns-clause-same
returns-clause-same c =
    let l = c.args.runs.now.items in
    let i = c.args.at - 1 in
    let lt : i < length l = omega (arith, c.requires.gap.in_range) in
    let x : Range = c.remove-run.result in
    let is : x ≡ range_at l i = read_at l i x lt c.remove-run.ensures.value in
    let read = read_at l i c.index.result.now lt c.index.ensures in
    let whole : Range = record { start = x.start; count = x.count + c.args.range.count } in
    let touch : end_of_range x ≡ c.args.range.start = rw (is, ← read) (sym c.end.ensures ∙ c.if-end-range.false) in
    rw c.remove-run.ensures.items (joined_below l c.requires.apart i lt x is c.args.range whole refl touch (omega (arith, touch)))
