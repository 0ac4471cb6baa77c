use Rattle.std.proofs.Common.{◌≡◌, ◌+◌, ◌==◌, ◌||◌, Bool, true, false, drop, refl, sym, ap, ◌∙◌, arith}
use Rattle.rpm_select.proofs.Vocabulary.{list_any}
use Rattle.std.proofs.lemmas.Bool.Decides.{nat_tests}
use Rattle.rpm_select.proofs.Picking.{number_step}
use Rattle.rpm_select.proofs.rows.is_number_in.Goals as goal

pub returns-then-number-from : goal.returns-then-number-from
returns-then-number-from c =
    let w = c.args.wanted in
    let same : (c.number.result == w) ≡ true = grind (arith, nat_tests) in
    sym (number_step w c.args.numbers.now c.loop-i.i (c.loop-i.i + 1) c.number.result refl c.number.ensures
    ∙ ap (λ (x : Bool). x || list_any (λ m. m == w) (drop (c.loop-i.i + 1) c.args.numbers.now)) same) ∙ c.loop-i.invariant

pub loop-i-preserved : goal.loop-i-preserved
loop-i-preserved c =
    let w = c.args.wanted in
    let other : (c.number.result == w) ≡ false = grind (arith, nat_tests) in
    sym (number_step w c.args.numbers.now c.loop-i.i (c.loop-i.i + 1) c.number.result refl c.number.ensures
    ∙ ap (λ (x : Bool). x || list_any (λ m. m == w) (drop (c.loop-i.i + 1) c.args.numbers.now)) other) ∙ c.loop-i.invariant
