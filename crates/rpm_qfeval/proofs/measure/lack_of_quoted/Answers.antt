use Rattle.std.proofs.Common.{◌≡◌, ℕ, ◌+◌, ◌-◌, List, ◌∷◌, length, drop, sym, arith, ap, ◌∙◌, length-append}
use Rattle.rpm_qfeval.proofs.Vocabulary.{concat, escaped_text}
use Rattle.rpm_qfeval.proofs.Steps.{drop_here, drop_none}
use Rattle.rpm_qfeval.proofs.Encodings.{escaped-append}
use Rattle.rpm_qfeval.proofs.measure.lack_of_quoted.Goals as goal

less : (left : ℕ) (part : List ℕ) (rest parts : List (List ℕ)) → parts ≡ part ∷ rest → (left - length (escaped_text part)) - length
    (escaped_text (concat rest)) ≡ left - length (escaped_text (concat parts))
less left part rest parts e =
    let f = ap length (ap (λ ps. escaped_text (concat ps)) e ∙ escaped-append part (concat rest)) in
    omega (arith, f, length-append (escaped_text part) (escaped_text (concat rest)))

pub loop-part-preserved : goal.loop-part-preserved
loop-part-preserved c =
    ap (λ n. n - length (escaped_text (concat (drop (c.loop-part.k + 1) c.args.text.now)))) c.lack_of_escaped-left.ensures
    ∙ less c.loop-part.left c.in-Some.part.now (drop (c.loop-part.k + 1) c.args.text.now) (drop c.loop-part.k c.args.text.now)
    (drop_here c.args.text.now c.loop-part.k _ (sym c.in-Some.ensures.value))
    ∙ c.loop-part.invariant

pub returns : goal.returns
returns c =
    let e = ap (λ ps. length (escaped_text (concat ps))) (drop_none c.args.text.now c.loop-part.k (sym c.in_default.ensures.value)) in
    let f = c.loop-part.invariant in
    omega (arith, e)
