use Rattle.rpm_db.proofs.Vocabulary.{Remade, remade_none, runs_sync}
use Rattle.rpm_db.proofs.Making.{remade_both}
use Rattle.rpm_db.proofs.indexing.sync_both.Goals as goal

pub returns-in_err-sync-clause-runs : goal.returns-in_err-sync-clause-runs
returns-in_err-sync-clause-runs g c =
    let s = c.in_err-sync.ensures in
    runs_sync g.D.Disk Remade remade_none _ _ s.same s.images s.time s.reads s.follows

pub returns-clause-runs : goal.returns-clause-runs
returns-clause-runs g c =
    let s = c.in_ok-sync.ensures in
    let t = c.sync-2.ensures in
    remade_both g.D.Disk g.met.D.Disk.follows_trans (runs_sync g.D.Disk Remade remade_none _ _ s.same s.images s.time s.reads s.follows)
    (runs_sync g.D.Disk Remade remade_none _ _ t.same t.images t.time t.reads t.follows)
