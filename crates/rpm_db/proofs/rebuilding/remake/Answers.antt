use Rattle.rpm_db.proofs.Vocabulary.{Remade, remade_then, runs_then}
use Rattle.rpm_db.proofs.rebuilding.remake.Goals as goal

pub returns-clause-runs : goal.returns-clause-runs
returns-clause-runs g c =
    runs_then g.D.Disk g.met.D.Disk.follows_trans
    Remade Remade Remade c.args.disk.now c.sync_both.new.disk c.make_index.new.disk (λ x y r. r) remade_then c.in-Ok.ensures.runs
    c.make_index.ensures.runs
