use Rattle.std.proofs.Common.{arith, length, ◌≤◌}
use Rattle.rpm_qfeval.proofs.Vocabulary.{parts_of_tree}
use Rattle.rpm_qfeval.proofs.Walked.{sizes_start, sizes_next, sizes_found, sizes_end}
use Rattle.rpm_qfeval.proofs.sizes.+sizing.Goals as goal

pub sizes-loop-i-init : goal.sizes-loop-i-init
sizes-loop-i-init t c = sizes_start c.args.view.now c.args.number c.args.parts.now

pub sizes-loop-i-preserved : goal.sizes-loop-i-preserved
sizes-loop-i-preserved t c = sizes_next c.args.view.now c.args.number c.loop-i.i c.args.parts.now c.at.result.now c.at.ensures.value
    c.in_default.ensures c.loop-i.invariant

pub sizes-returns-in-Some : goal.sizes-returns-in-Some
sizes-returns-in-Some t c = sizes_found c.args.view.now c.args.number c.loop-i.i c.args.parts.now c.at.result.now _ c.at.ensures.value
    c.in-Some.ensures c.loop-i.invariant

pub sizes-returns : goal.sizes-returns
sizes-returns t c =
    let le : length (parts_of_tree c.args.parts.now) ≤ c.loop-i.i = omega arith in
    sizes_end c.args.view.now c.args.number c.loop-i.i c.args.parts.now le c.loop-i.invariant
