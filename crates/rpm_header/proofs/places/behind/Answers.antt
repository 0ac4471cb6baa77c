use Rattle.std.proofs.Common.{◌≡◌, ◌-◌, ◌*◌, ℕ, List, length, take, drop, get_or, arith, ap, sym, ◌∙◌, length-drop}
use Rattle.std.proofs.lemmas.List.{take_all}
use Rattle.rpm_header.proofs.Vocabulary.{after_texts, zeros}
use Rattle.rpm_header.proofs.Counted.{zeros-parts, zeros-take-le, ended_enough}
use Rattle.rpm_header.proofs.Skipped.{skip_drop, skip_none}
use Rattle.rpm_header.proofs.places.behind.Goals as goal

pub returns-then-count-eq0 : goal.returns-then-count-eq0
returns-then-count-eq0 c = sym (skip_none c.args.count c.args.bytes.now (omega arith))

pub stride_before-k-requires-clause-fewer : goal.stride_before-k-requires-clause-fewer
stride_before-k-requires-clause-fewer c =
    omega (arith, c.requires.counted.each 0 c.requires.counted.some, zeros-take-le (0 * c.args.stride) c.args.bytes.now)

pub pass_blocks-in_block-requires : goal.pass_blocks-in_block-requires
pass_blocks-in_block-requires c =
    let bytes = c.args.bytes.now in
    let from = c.stride_before-k.result * c.args.stride in
    let rest = take_all (length bytes - from) (drop from bytes) (omega (arith, length-drop from bytes)) in
    omega (arith, ap zeros rest, zeros-parts from bytes, c.requires.ended, c.requires.counted.each c.stride_before-k.result c.stride_before-k.ensures.below)

pub skip_texts-requires : goal.skip_texts-requires
skip_texts-requires c = ended_enough c.pass_parts-left.result.0 c.pass_parts-left.result.1.now c.pass_parts-left.ensures.more

pub returns : goal.returns
returns c =
    let bytes = c.args.bytes.now in
    let k = c.stride_before-k.result in
    let from = k * c.args.stride in
    let rest = take_all (length bytes - from) (drop from bytes) (omega (arith, length-drop from bytes)) in
    let sum : get_or c.args.sums.now k 0 ≡ zeros (take from bytes) = c.requires.counted.each k c.stride_before-k.ensures.below in
    c.skip_texts.ensures
    ∙ c.pass_parts-left.ensures.same
    ∙ c.pass_blocks-in_block.ensures.same
    ∙ ap (λ (s : List ℕ). after_texts (c.args.count - get_or c.args.sums.now k 0) s) rest
    ∙ ap (λ (n : ℕ). after_texts (c.args.count - n) (drop from bytes)) sum
    ∙ skip_drop from c.args.count bytes (omega (arith, c.stride_before-k.ensures.fewer))
