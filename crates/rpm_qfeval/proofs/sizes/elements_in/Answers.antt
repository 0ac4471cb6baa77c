use Rattle.std.proofs.Common.{◌≤◌, length, ap, arith}
use Rattle.std.specs.Prelude.{filter_map}
use Rattle.rpm_qfeval.proofs.Vocabulary.{direct, parts_of_tree}
use Rattle.rpm_qfeval.proofs.Counts.{gives_few, gives_no_more}
use Rattle.rpm_qfeval.proofs.Steps.{drop_all}
use Rattle.rpm_qfeval.proofs.sizes.elements_in.Goals as goal
use Rattle.rpm_qfeval.proofs.sizes.elements_in.Goals.{then-is_element, else-is_element}

pub loop-i-preserved : goal.loop-i-preserved
loop-i-preserved c =
    elim c.if-is_element.branch [
      | then-is_element w ↦ record {
        few = λ header number.
            let one = gives_few (direct header number) (parts_of_tree c.args.inner.now) c.loop-i.i c.at.result.now c.at.ensures.value in
            omega (arith, c.loop-i.invariant.few header number, one, w.seen-is);
        within = omega (arith, c.loop-i.invariant.within, w.seen-is);
      }
      | else-is_element w ↦ record {
        few = λ header number.
            let none = gives_no_more (direct header number) (parts_of_tree c.args.inner.now) c.loop-i.i c.at.result.now c.at.ensures.value
            (c.is_element.ensures w.if-is_element.false header number) in
            omega (arith, c.loop-i.invariant.few header number, none, w.seen-is);
        within = omega (arith, c.loop-i.invariant.within, w.seen-is);
      }
    ]

pub returns : goal.returns
returns c = λ header number.
    let le : length (parts_of_tree c.args.inner.now) ≤ c.loop-i.i = omega arith in
    omega (
      arith,
      c.loop-i.invariant.few header number,
      ap (λ ps. length (filter_map (direct header number) ps)) (drop_all (parts_of_tree c.args.inner.now) c.loop-i.i le),
    )
