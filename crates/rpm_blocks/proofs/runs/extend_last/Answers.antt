use Rattle.std.proofs.Common.{◌≡◌, ◌+◌, ◌-◌, ◌≤◌, length, refl, sym, ap, ◌∙◌, arith}
use Rattle.std.proofs.lemmas.Bool.Decides.{nat_tests}
use Rattle.rpm_blocks.proofs.Vocabulary.{end_of_range, Range, range_at}
use Rattle.rpm_blocks.proofs.Parts.{read_at, extended_apart, extended_same}
use Rattle.rpm_blocks.proofs.runs.extend_last.Goals as goal

pub returns-clause-apart : goal.returns-clause-apart
returns-clause-apart c =
    let l = c.args.runs.now.items in
    let i = c.len-last.result - 1 in
    let some : 1 ≤ length l = grind (arith, nat_tests) in
    let last : i + 1 ≡ length l = omega arith in
    let x : Range = c.index_mut.result.now in
    let is : x ≡ range_at l i = read_at l i x (omega arith) c.index_mut.ensures.value in
    let read : c.index.result.now ≡ range_at l i = read_at l i c.index.result.now (omega arith) c.index.ensures in
    let touch : end_of_range x ≡ c.args.range.start = ap end_of_range (is ∙ sym read) ∙ sym c.end.ensures ∙ c.if-end-range.false in
    extended_apart l c.requires.apart i last x is c.args.range (record { start = x.start; count = x.count + c.args.range.count })
    refl touch (omega (arith, touch)) c.requires.range.filled c.requires.range.bounded

pub returns-clause-same : goal.returns-clause-same
returns-clause-same c = λ yes.
    let l = c.args.runs.now.items in
    let i = c.len-last.result - 1 in
    let some : 1 ≤ length l = grind (arith, nat_tests) in
    let last : i + 1 ≡ length l = omega arith in
    let x : Range = c.index_mut.result.now in
    let is : x ≡ range_at l i = read_at l i x (omega arith) c.index_mut.ensures.value in
    let read : c.index.result.now ≡ range_at l i = read_at l i c.index.result.now (omega arith) c.index.ensures in
    let touch : end_of_range x ≡ c.args.range.start = ap end_of_range (is ∙ sym read) ∙ sym c.end.ensures ∙ c.if-end-range.false in
    extended_same l c.requires.apart i last x is c.args.range (record { start = x.start; count = x.count + c.args.range.count })
    refl touch (omega (arith, touch)) c.requires.range.filled
