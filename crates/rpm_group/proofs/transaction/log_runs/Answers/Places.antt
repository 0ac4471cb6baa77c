-- The log has places for each run.
use Rattle.std.proofs.Common.{arith}
use Rattle.rpm_group.proofs.Countings.{run_counted, log_units_later}
use Rattle.rpm_group.proofs.OneRun.{room_here}
use Rattle.rpm_group.proofs.transaction.log_runs.Goals.{After-log_run-arg-then-first-stop-1}
use Rattle.rpm_group.proofs.transaction.log_runs.Goals as goal

pub log_run-requires-clause-room : goal.log_run-requires-clause-room
log_run-requires-clause-room g c =
    let inv = c.loop-at.invariant in
    let table = c.args.pages.now.table.items in
    let first = c.next_unit-first in
    let stop = c.next_unit-stop in
    room_here table c.loop-at.next.at c.args.tail.at c.loop-at.at first.result stop.result c.args.pages.now.end inv.place
    (run_counted table c.loop-at.at first.result first.ensures.from first.ensures.between stop.result c.if-first-stop.true stop.ensures.between
    (λ some. inv.starts some c.loop-at-test.true)) stop.ensures.end c.requires.room

pub overflow_add-next : goal.overflow_add-next
overflow_add-next g c = omega (arith, log_run-requires-clause-room g (goal.at.overflow_add-next g c).After-log_run-arg-then-first-stop-1)

pub overflow_add-next-then-first-stop : goal.overflow_add-next-then-first-stop
overflow_add-next-then-first-stop g c =
    omega (arith, log_run-requires-clause-room g (goal.at.overflow_add-next-then-first-stop g c).After-log_run-arg-then-first-stop-1)

pub overflow_add-next-then-first-stop-2 : goal.overflow_add-next-then-first-stop-2
overflow_add-next-then-first-stop-2 g c =
    let inv = c.loop-at.invariant in
    let table = c.args.pages.now.table.items in
    omega (arith, inv.count, c.requires.few, c.requires.room, log_units_later table c.loop-at.at c.args.pages.now.end inv.end)
