use Rattle.std.proofs.Common.{true}
use Rattle.rpm_change.proofs.Vocabulary.{makes_small, out_refused, reached_anew, rebuild, remade_log, remade_then, store_of, state_in}
use Rattle.rpm_change.proofs.Halted.{rebuild_halts}
use Rattle.rpm_change.proofs.Rebuilt.{remade_limits, told_ok}
use Rattle.rpm_change.proofs.rebuilding.rebuild.Goals as goal

pub returns-in-Ok-clause-limits : goal.returns-in-Ok-clause-limits
returns-in-Ok-clause-limits g c = λ told.
    let said = c.in-Ok.ensures in
    let s = state_in g.D.Disk c.args.disk.now c.args.db.now in
    rw (makes_small true s (store_of c.args.db.now) (rebuild s).changes (λ is. (said.rebuilt told).0))
    (remade_limits g.D.Disk c.args.db.now said.runs.reads_as said.still.store (λ told. (said.rebuilt told).3) c.drop_all.ensures.went told).first

pub returns-in-Ok-clause-stores : goal.returns-in-Ok-clause-stores
returns-in-Ok-clause-stores g c =
    let said = c.in-Ok.ensures in
    told_ok c.drop_all.result (λ told is. is) (λ told. (remade_limits g.D.Disk c.args.db.now said.runs.reads_as said.still.store
    (λ told. (said.rebuilt told).3) c.drop_all.ensures.went told).stores)

pub returns-in-Ok-clause-reach : goal.returns-in-Ok-clause-reach
returns-in-Ok-clause-reach g c =
    let said = c.in-Ok.ensures in
    told_ok c.drop_all.result (λ told. reached_anew (state_in g.D.Disk c.args.disk.now c.args.db.now) (store_of c.args.db.now) _
    (g.D.Disk.files c.args.disk.now)
    (g.D.Disk.files c.rebuild.new.disk) (g.D.Disk.files c.drop_all.new.disk) (said.runs.reads_as told).pkg (said.renewed.reach told))
    (λ told. (remade_limits g.D.Disk c.args.db.now said.runs.reads_as said.still.store (λ told. (said.rebuilt told).3) c.drop_all.ensures.went
    told).reached)

pub returns-in-Ok-clause-runs : goal.returns-in-Ok-clause-runs
returns-in-Ok-clause-runs g c =
    remade_then g.D.Disk g.met.D.Disk.follows_trans _ _ _ c.in-Ok.ensures.runs c.drop_all.ensures.went.left.runs

pub halt_of-requires : goal.halt_of-requires
halt_of-requires g c = record { halting = rebuild_halts c.args.db.now c.requires.ready.going c.in-Err.fault c.in-Err.ensures.causes }

pub returns-in-Err-clause-ended : goal.returns-in-Err-clause-ended
returns-in-Err-clause-ended g c = λ told.
    let s = state_in g.D.Disk c.args.disk.now c.args.db.now in
    rw c.halt_of.ensures
    (out_refused g.O.Sink c.args.out.now (rebuild s) c.in-Err.fault s (state_in g.D.Disk c.rebuild.new.disk c.rebuild.new.self))

pub returns-in-Err-clause-runs : goal.returns-in-Err-clause-runs
returns-in-Err-clause-runs g c =
    remade_log g.D.Disk g.met.D.Disk.follows_refl g.met.D.Disk.follows_trans _ _ c.in-Err.ensures.runs
