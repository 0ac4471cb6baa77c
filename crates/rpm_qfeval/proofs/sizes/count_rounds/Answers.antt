use Rattle.std.proofs.Common.{arith, length, ◌≤◌}
use Rattle.std.specs.Prelude.{slice_get}
use Rattle.rpm_qfeval.proofs.Vocabulary.{direct, parts_of_tree}
use Rattle.rpm_qfeval.proofs.Counts.{passes, first, ends}
use Rattle.rpm_qfeval.proofs.sizes.count_rounds.Goals as goal

pub loop-i-preserved : goal.loop-i-preserved
loop-i-preserved c = passes (direct c.args.view.now c.args.number) (parts_of_tree c.args.inner.now) c.loop-i.i (λ ns. slice_get ns 0) c.at.result.now _
    c.at.ensures.value c.in_default.ensures c.loop-i.invariant

pub returns-in-Some : goal.returns-in-Some
returns-in-Some c = first (direct c.args.view.now c.args.number) (parts_of_tree c.args.inner.now) c.loop-i.i _ _ _ c.at.ensures.value c.in-Some.ensures
    c.loop-i.invariant

pub returns : goal.returns
returns c =
    let le : length (parts_of_tree c.args.inner.now) ≤ c.loop-i.i = omega arith in
    ends (direct c.args.view.now c.args.number) (parts_of_tree c.args.inner.now) c.loop-i.i (λ ns. slice_get ns 0) _ le c.loop-i.invariant
