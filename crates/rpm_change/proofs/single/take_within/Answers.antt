use Rattle.std.proofs.Common.{refl, arith}
use Rattle.rpm_change.proofs.Vocabulary.{Erase, erase_fault, resumed_database, state_in}
use Rattle.rpm_change.proofs.Erased.{erasing_whole}
use Rattle.rpm_change.proofs.Gathered.{gathered_one, ungathered_one}
use Rattle.rpm_change.proofs.Halted.{erase_halts}
use Rattle.rpm_change.proofs.single.take_within.Goals as goal

pub returns-in-Ok : goal.returns-in-Ok
returns-in-Ok g c =
    let done = c.in-Ok.ensures in
    gathered_one g.D.Disk (Erase c.args.number) done.runs _ done.gathers done.left.indexed tt done.causes.2.0 (λ told. omega (arith, done.end told))
    done.index done.cause.later

pub halt_of-requires : goal.halt_of-requires
halt_of-requires g c =
    record { halting = erase_halts (resumed_database c.args.db.now) refl c.args.number c.requires.held c.in-Err.fault c.in-Err.ensures.causes }

pub returns-in-Err : goal.returns-in-Err
returns-in-Err g c =
    let said = c.in-Err.ensures in
    let db = c.args.db.now in
    let n = c.args.number in
    let f = c.in-Err.fault in
    rw c.halt_of.ensures
    (ungathered_one g.D.Disk (Erase n) said.runs f said.gathers said.left
    (λ i full. erase_fault i (resumed_database db) (state_in g.D.Disk c.args.disk.now db) n f said.causes full) refl refl
    (λ told whole. erasing_whole f said.kinds) said.cause (λ is. cc))
