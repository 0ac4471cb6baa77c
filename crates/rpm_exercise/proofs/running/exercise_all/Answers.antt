use Rattle.std.proofs.Common.{true, refl, arith}
use Rattle.rpm_exercise.proofs.Vocabulary.{cause_then, changes, current_left, err_is, other_stop, remade_log, remade_then, store_of, state_in}
use Rattle.rpm_exercise.proofs.Vocabulary.{state_remade}
use Rattle.rpm_exercise.proofs.Halts.{asking_stop, reading_is}
use Rattle.rpm_exercise.proofs.running.exercise_all.Goals as goal

pub returns-clause-ended : goal.returns-clause-ended
returns-clause-ended g c = λ told.
    let said = c.in_ok-renew.ensures in
    rw (← state_remade (g.D.Disk.files c.args.disk.now) (g.D.Disk.files c.renew.new.disk) c.args.db.now c.renew.new.db (said.runs.reads_as told) said.store)
    (c.change_and_tell.ensures.went.ended told)

pub returns-clause-current : goal.returns-clause-current
returns-clause-current g c =
    current_left g.D.Disk c.renew.new.disk c.change_and_tell.new.disk c.renew.new.db c.change_and_tell.new.db c.change_and_tell.result
    c.change_and_tell.ensures.went.left c.in_ok-renew.ensures.current.index

pub returns-in_err-renew-clause-stop : goal.returns-in_err-renew-clause-stop
returns-in_err-renew-clause-stop g c =
    let said = c.in_err-renew.ensures in
    let h = c.in_err-renew.field-0.0 in
    rw (err_is c.from_residual.result c.from_residual.ensures)
    (asking_stop c.renew.new.db h said.indexed (reading_is true (g.D.Disk.files c.args.disk.now).idx h said.kinds).2)

pub returns-clause-disk : goal.returns-clause-disk
returns-clause-disk g c = cause_then c.in_ok-renew.ensures.disk.later c.change_and_tell.ensures.went.left.disk

pub returns-clause-runs : goal.returns-clause-runs
returns-clause-runs g c =
    remade_then g.D.Disk g.met.D.Disk.follows_trans _ _ _ c.in_ok-renew.ensures.runs c.change_and_tell.ensures.went.left.runs

pub returns-in_err-renew-clause-runs : goal.returns-in_err-renew-clause-runs
returns-in_err-renew-clause-runs g c =
    remade_log g.D.Disk g.met.D.Disk.follows_refl g.met.D.Disk.follows_trans _ _ c.in_err-renew.ensures.runs

pub returns-clause-limits : goal.returns-clause-limits
returns-clause-limits g c = λ told.
    let f = g.D.Disk.files in
    let said = c.in_ok-renew.ensures in
    let same = state_remade (f c.args.disk.now) (f c.renew.new.disk) c.args.db.now c.renew.new.db (said.runs.reads_as told) said.store in
    record {
      mid = f c.renew.new.disk;
      same = (said.runs.reads_as told).pkg;
      made = said.reach told;
      holds = rw (← same, ← said.store) ((c.change_and_tell.ensures.went.limits told).indexed (said.current.index told));
    }

pub returns-in_err-renew-clause-limits : goal.returns-in_err-renew-clause-limits
returns-in_err-renew-clause-limits g c = λ told.
    let s = state_in g.D.Disk c.args.disk.now c.args.db.now in
    let said = c.in_err-renew.ensures in
    rw (err_is c.from_residual.result c.from_residual.ensures) (record {
      mid = g.D.Disk.files c.args.disk.now;
      same = refl;
      made = omega arith;
      holds = other_stop true s (store_of c.args.db.now) (store_of c.renew.new.db) (changes c.args.n s) c.in_err-renew.field-0.0
          (reading_is true (g.D.Disk.files c.args.disk.now).idx c.in_err-renew.field-0.0 said.kinds).0;
    })
