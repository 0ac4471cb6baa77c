use Rattle.std.proofs.Common.{[], List, ℕ, ◌++◌, get_or, ◌∙◌, sym, ap}
use Rattle.rpm_outside.proofs.Vocabulary.{bytes_of_more}
use Rattle.rpm_outside.proofs.steps.joined.Goals as goal

pub loop-unit-preserved : goal.loop-unit-preserved
loop-unit-preserved c =
    let units = c.args.units.now in
    c.in_ok-extend_from_slice.ensures.items ∙ ap (λ (bs : List ℕ). bs ++ get_or units c.loop-unit.unit-index []) c.loop-unit.invariant
    ∙ sym (bytes_of_more units c.loop-unit.unit-index [] c.loop-unit-test.true)
