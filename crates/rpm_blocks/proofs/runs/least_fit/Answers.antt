use Rattle.std.proofs.Common.{◌+◌, ◌≤◌, arith}
use Rattle.rpm_blocks.proofs.Vocabulary.{block_limit, range_at}
use Rattle.rpm_blocks.proofs.Fits.{passed_more, none_fits}
use Rattle.rpm_blocks.proofs.runs.least_fit.Goals as goal

pub loop-run-preserved : goal.loop-run-preserved
loop-run-preserved c =
    let l = c.args.runs.now in
    let k = c.loop-run.run-index in
    let answer = c.if-is_wide_enough.ensures in
    let narrow : c.loop-run.block + c.args.count ≤ (range_at l k).start → ⊥ = λ wide. let t = answer.1 wide in cc in
    rw (c.max-block.ensures, c.end.ensures) (passed_more l c.requires.apart c.args.count c.args.from k c.loop-run.block c.loop-run.invariant
    c.requires.filled c.loop-run-test.true narrow)

pub returns-else-is_wide_enough-2 : goal.returns-else-is_wide_enough-2
returns-else-is_wide_enough-2 c =
    let l = c.args.runs.now in
    let answer = c.if-is_wide_enough-2.ensures in
    let over : c.loop-run.block + c.args.count ≤ block_limit → ⊥ = λ ends. let t = answer.1 ends in cc in
    none_fits l c.requires.apart c.args.count c.args.from c.loop-run.run-index c.loop-run.block c.loop-run.invariant
    (omega (arith, c.loop-run.invariant.in_range)) over
