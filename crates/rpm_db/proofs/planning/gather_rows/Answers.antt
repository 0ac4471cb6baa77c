use Rattle.std.proofs.Common.{◌∙◌, arith}
use Rattle.rpm_db.proofs.Vocabulary.{rows, units_for}
use Rattle.rpm_db.proofs.Batched.{foreseen_at, takes_at}
use Rattle.rpm_db.proofs.Refused.{aside_reading, index_of_reading, reading_bad, reading_full}
use Rattle.rpm_db.proofs.Results.{map_if_ok, on_ok}
use Rattle.rpm_db.proofs.Unwritten.{looked_both, looked_store}
use Rattle.rpm_db.proofs.planning.gather_rows.Goals as goal

-- ---- the rows weren't gathered

pub returns-in-Err-clause-takes : goal.returns-in-Err-clause-takes
returns-in-Err-clause-takes g c = λ told. record {
  full = λ told' before after has balances fits. reading_full (units_for (rows after)) c.in-Err.fault c.in-Err.ensures.kinds;
  bad = λ told'. reading_bad _ (g.D.Disk.files c.args.disk.now).idx c.in-Err.fault c.in-Err.ensures.kinds;
}

pub returns-in-Err-clause-kinds : goal.returns-in-Err-clause-kinds
returns-in-Err-clause-kinds g c = index_of_reading c.in-Err.fault c.in-Err.ensures.kinds

pub returns-in-Err-clause-aside : goal.returns-in-Err-clause-aside
returns-in-Err-clause-aside g c = λ is. aside_reading c.args.request c.in-Err.fault c.in-Err.ensures.kinds

pub returns-in-Err-clause-runs : goal.returns-in-Err-clause-runs
returns-in-Err-clause-runs g c = looked_store g.D.Disk _ _ _ c.in-Err.ensures.looks

-- ---- they were

pub returns-clause-runs : goal.returns-clause-runs
returns-clause-runs g c = looked_both g.D.Disk g.met.D.Disk.follows_trans _ _ _ _ _ c.in-Ok.ensures.looks c.foresee.ensures.looks

pub returns-clause-gathered : goal.returns-clause-gathered
returns-clause-gathered g c = on_ok c.foresee.result (λ told. c.in-Ok.ensures.gathered told)

pub returns-clause-takes : goal.returns-clause-takes
returns-clause-takes g c = λ told.
    takes_at g.D.Disk c.args.disk.now c.gather.new.disk _ _ _ c.foresee.result told (c.in-Ok.ensures.looks.untouched told).same (c.in-Ok.ensures.gathered told)
    c.foresee.ensures.takes

pub returns-clause-plan : goal.returns-clause-plan
returns-clause-plan g c =
    map_if_ok c.foresee.result (λ plan. foreseen_at g.D.Disk c.args.disk.now c.gather.new.disk _ _ _ c.args.ahead plan
    (λ told. (c.in-Ok.ensures.looks.untouched told).same) c.in-Ok.ensures.gathered) c.foresee.ensures.plan

pub returns-clause-reads : goal.returns-clause-reads
returns-clause-reads g c = omega (arith, c.in-Ok.ensures.looks.reads.pkg, c.foresee.ensures.looks.reads.pkg)

pub returns-clause-moment : goal.returns-clause-moment
returns-clause-moment g c = c.foresee.ensures.looks.moment_stays ∙ c.in-Ok.ensures.looks.moment_stays
