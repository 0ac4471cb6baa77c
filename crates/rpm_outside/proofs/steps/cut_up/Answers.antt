use Rattle.std.proofs.Common.{◌≡◌, ℕ, ◌+◌, ◌-◌, ◌*◌, ◌/◌, length, ◌++◌, [], ◌∷◌, List, take, drop, sym, ◌∙◌, ap, arith}
use Rattle.rpm_outside.proofs.Vocabulary.{cut_up, length-cut_up}
use Rattle.rpm_outside.proofs.Units.{cut_up_more}
use Rattle.rpm_outside.proofs.steps.cut_up.Goals as goal

pub loop-k-preserved : goal.loop-k-preserved
loop-k-preserved c =
    let bytes = c.args.bytes.now in
    let k = c.loop-k.k in
    let sixteen : (16 * k + 16) - 16 * k ≡ 16 = omega arith in
    let unit : c.copy_from_slice.new.self ≡ take 16 (drop (16 * k) bytes) = c.copy_from_slice.ensures.after
    ∙ ap (λ (n : ℕ). take n (drop (16 * k) bytes)) sixteen in
    c.in_ok-push.ensures.items ∙ ap (λ (us : List (List ℕ)). us ++ c.copy_from_slice.new.self ∷ []) c.loop-k.invariant
    ∙ ap (λ (u : List ℕ). cut_up k bytes ++ u ∷ []) unit ∙ sym (cut_up_more k bytes)

pub returns-clause-count : goal.returns-clause-count
returns-clause-count c =
    let all : c.loop-k.k ≡ length c.args.bytes.now / 16 = omega arith in
    ap length c.loop-k.invariant ∙ length-cut_up c.loop-k.k c.args.bytes.now ∙ all
