use Rattle.rpm_db.proofs.Making.{ordered_pending, remade_both, remade_void}
use Rattle.rpm_db.proofs.indexing.write_index.Goals as goal

pub seal_index-requires-clause-written : goal.seal_index-requires-clause-written
seal_index-requires-clause-written g c = ordered_pending c.rewrite_owned.new.self.pending c.rewrite_owned.new.self.units c.rewrite_owned.new.self.second
    c.in_ok-rewrite_owned.ensures.ordered

pub returns-in-Ok-clause-runs : goal.returns-in-Ok-clause-runs
returns-in-Ok-clause-runs g c =
    remade_both g.D.Disk g.met.D.Disk.follows_trans (remade_void g.D.Disk c.in_ok-rewrite_owned.ensures.writes.changes) c.in-Ok.ensures.runs

pub returns-in-Err-clause-runs : goal.returns-in-Err-clause-runs
returns-in-Err-clause-runs g c =
    remade_both g.D.Disk g.met.D.Disk.follows_trans (remade_void g.D.Disk c.in_ok-rewrite_owned.ensures.writes.changes) c.in-Err.ensures.runs

pub returns-in_err-rewrite_owned-clause-runs : goal.returns-in_err-rewrite_owned-clause-runs
returns-in_err-rewrite_owned-clause-runs g c = remade_void g.D.Disk c.in_err-rewrite_owned.ensures.writes.changes
