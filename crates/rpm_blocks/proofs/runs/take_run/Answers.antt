use Rattle.std.proofs.Common.{◌+◌, ◌-◌, arith}
use Rattle.rpm_blocks.proofs.Vocabulary.{IsPlace, range_at}
use Rattle.rpm_blocks.proofs.Cuts.{run_in_range, run_ends}
use Rattle.rpm_blocks.proofs.Edits.{gap_removed}
use Rattle.rpm_blocks.proofs.Parts.{read_at}
use Rattle.rpm_blocks.proofs.Same.{same_remove}
use Rattle.rpm_blocks.proofs.runs.take_run.Goals as goal

pub returns-clause-ends : goal.returns-clause-ends
returns-clause-ends c =
    let l = c.args.runs.now.items in
    let at = c.place-at.result in
    let place : IsPlace l (c.args.range.start + 1) at = rw (← c.deref.ensures.value) c.place-at.ensures in
    let lt = run_in_range l c.requires.apart c.args.range c.requires.range c.requires.used at place in
    let is = read_at l (at - 1) c.remove-run.result lt c.remove-run.ensures.value in
    rw is (run_ends l c.requires.apart c.args.range c.requires.range c.requires.used at place)

pub returns-clause-gap : goal.returns-clause-gap
returns-clause-gap c =
    let l = c.args.runs.now.items in
    let at = c.place-at.result in
    let place : IsPlace l (c.args.range.start + 1) at = rw (← c.deref.ensures.value) c.place-at.ensures in
    let lt = run_in_range l c.requires.apart c.args.range c.requires.range c.requires.used at place in
    let is = read_at l (at - 1) c.remove-run.result lt c.remove-run.ensures.value in
    let there = gap_removed 1 l c.requires.apart (at - 1) lt (range_at l (at - 1)) (omega arith) (omega arith) in
    rw (c.remove-run.ensures.items, is) there

pub returns-clause-same : goal.returns-clause-same
returns-clause-same c =
    let l = c.args.runs.now.items in
    let at = c.place-at.result in
    let place : IsPlace l (c.args.range.start + 1) at = rw (← c.deref.ensures.value) c.place-at.ensures in
    let lt = run_in_range l c.requires.apart c.args.range c.requires.range c.requires.used at place in
    let is = read_at l (at - 1) c.remove-run.result lt c.remove-run.ensures.value in
    rw c.remove-run.ensures.items (same_remove l (at - 1) c.remove-run.result lt is)
