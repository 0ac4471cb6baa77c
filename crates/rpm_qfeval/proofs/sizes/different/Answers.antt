use Rattle.std.proofs.Common.{arith, length, ◌≤◌, sym, ◌∙◌}
use Rattle.rpm_qfeval.proofs.Vocabulary.{counts, direct, parts_of_tree}
use Rattle.rpm_qfeval.proofs.Counts.{few, differs_from, passes, same_count, other_count, all_same}
use Rattle.rpm_qfeval.proofs.sizes.different.Goals as goal
use Rattle.rpm_qfeval.proofs.sizes.different.Goals.{in-Some+else-count-first, in_default}

pub returns-then-elements_in-le1 : goal.returns-then-elements_in-le1
returns-then-elements_in-le1 c =
    let all = c.elements_in.ensures c.args.view.now c.args.number in
    few (counts c.args.view.now c.args.number c.args.inner.now) (omega (arith, all, c.if-elements_in-le1.true))

pub returns-then-count-first : goal.returns-then-count-first
returns-then-count-first c =
    rw c.unwrap_or-first.ensures (other_count (direct c.args.view.now c.args.number) (parts_of_tree c.args.inner.now) c.loop-i.i c.loop-i.seen
    c.at.result.now c.in-Some.count _ c.at.ensures.value c.in-Some.ensures (λ e. c.if-count-first.true (e ∙ sym c.unwrap_or-first.ensures))
    c.loop-i.invariant)

pub loop-i-preserved : goal.loop-i-preserved
loop-i-preserved c =
    elim c.match-direct.branch [
      | in-Some+else-count-first w ↦ rw (w.seen-is, w.unwrap_or-first.ensures) (same_count (direct c.args.view.now c.args.number)
          (parts_of_tree c.args.inner.now) c.loop-i.i c.loop-i.seen c.at.result.now w.in-Some.count _ c.at.ensures.value w.in-Some.ensures
          (w.if-count-first.false ∙ w.unwrap_or-first.ensures) c.loop-i.invariant)
      | in_default w ↦ rw w.seen-is (passes (direct c.args.view.now c.args.number) (parts_of_tree c.args.inner.now) c.loop-i.i (differs_from c.loop-i.seen)
          c.at.result.now _ c.at.ensures.value w.in_default.ensures c.loop-i.invariant)
    ]

pub returns : goal.returns
returns c =
    let le : length (parts_of_tree c.args.inner.now) ≤ c.loop-i.i = omega arith in
    all_same (direct c.args.view.now c.args.number) (parts_of_tree c.args.inner.now) c.loop-i.i c.loop-i.seen _ le c.loop-i.invariant
