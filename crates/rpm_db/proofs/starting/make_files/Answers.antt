use Rattle.std.proofs.Common.{sym, ap, ◌∙◌, subst}
use Rattle.rpm_db.proofs.Vocabulary.{IsUnsealed, Remade, runs_weaker, SameLog, SameOutside, store, Units}
use Rattle.rpm_pkgdb.specs.Store as pkgdb
use Rattle.rpm_db.proofs.Emptied.{empty_unsealed}
use Rattle.rpm_db.proofs.EmptyCrashes.{crashes_all, crashes_both, crashes_first}
use Rattle.rpm_db.proofs.Making.{ordered_pending}
use Rattle.rpm_db.proofs.Opened.{still_quiet}
use Rattle.rpm_db.proofs.SameLogs.{log_made, log_sealed}
use Rattle.rpm_db.proofs.starting.make_files.Goals as goal

pub seal_index-requires-clause-written : goal.seal_index-requires-clause-written
seal_index-requires-clause-written g c =
    ordered_pending c.in-Ok.index.pending c.in-Ok.index.units c.in-Ok.index.second c.in-Ok.ensures.empty.ordered

pub seal_index-requires-clause-here : goal.seal_index-requires-clause-here
seal_index-requires-clause-here g c = λ told.
    let m = c.in-Ok-make.ensures in
    let idx = m.writes.changes.idx told in
    subst (λ (u : Units). IsUnsealed 1 c.in-Ok.index.pending (g.D.Disk.files c.make.new.disk).pkg u) (sym idx)
    (empty_unsealed c.in-Ok.index.pending (g.D.Disk.files c.make.new.disk).pkg (g.D.Disk.files c.empty_index.new.disk).idx c.args.store.now
    (subst (pkgdb.KeepsStore (g.D.Disk.files c.make.new.disk).pkg) m.ok (m.made told).written.kept) (c.in-Ok.ensures.empty.whole told)
    (c.in-Ok.ensures.empty.rows
    told))

pub seal_index-requires-clause-each : goal.seal_index-requires-clause-each
seal_index-requires-clause-each g c = λ told image here.
    let m = c.in-Ok-make.ensures in
    let idx = m.writes.changes.idx told in
    subst (λ (u : Units). IsUnsealed 1 c.in-Ok.index.pending image.pkg u) (sym idx)
    (empty_unsealed c.in-Ok.index.pending image.pkg (g.D.Disk.files c.empty_index.new.disk).idx c.args.store.now
    (subst (pkgdb.KeepsStore image.pkg) m.ok ((m.made told).written.quiet image here).keeps) (c.in-Ok.ensures.empty.whole told)
    (c.in-Ok.ensures.empty.rows told))

pub returns-in-Err-clause-crashes : goal.returns-in-Err-clause-crashes
returns-in-Err-clause-crashes g c = λ told. crashes_first g.D.Disk _ told _ _ c.requires.can c.in-Err.ensures.runs

pub returns-in_default-clause-crashes : goal.returns-in_default-clause-crashes
returns-in_default-clause-crashes g c = λ told.
    crashes_both g.D.Disk _ told _ _ _ _ c.requires.can c.in-Ok.ensures.runs c.in-Ok.ensures.empty (c.in_default.ensures.images told)

pub returns-in-Ok-seal_index-clause-crashes : goal.returns-in-Ok-seal_index-clause-crashes
returns-in-Ok-seal_index-clause-crashes g c = λ told.
    crashes_all g.D.Disk _ told _ _ _ _ c.requires.can c.in-Ok.ensures.runs c.in-Ok.ensures.empty (c.in-Ok-make.ensures.images told)
    g.met.D.Disk.earlier _ (c.in-Ok-seal_index.ensures.runs.any_moment told)

pub returns-in-Err-seal_index-clause-crashes : goal.returns-in-Err-seal_index-clause-crashes
returns-in-Err-seal_index-clause-crashes g c = λ told.
    crashes_all g.D.Disk _ told _ _ _ _ c.requires.can c.in-Ok.ensures.runs c.in-Ok.ensures.empty (c.in-Ok-make.ensures.images told)
    g.met.D.Disk.earlier _ (c.in-Err-seal_index.ensures.runs.any_moment told)

pub returns-in-Ok-seal_index-clause-empty : goal.returns-in-Ok-seal_index-clause-empty
returns-in-Ok-seal_index-clause-empty g c =
    let m = c.in-Ok-make.ensures in
    let s = c.in-Ok-seal_index.ensures in
    record {
      kept = λ told. ap store (s.runs.reads_as told).pkg ∙ (m.made told).written.kept;
      quiet = λ told.
          still_quiet g.D.Disk c.make.new.disk c.seal_index.new.disk c.make.new.self told s.runs (m.made told).written.quiet;
      current = s.sealed.current;
      units = s.sealed.kept;
      index_of = s.sealed.index_of;
      durable = s.sealed.durable;
    }

pub returns-in-Err-clause-runs : goal.returns-in-Err-clause-runs
returns-in-Err-clause-runs g c = runs_weaker g.D.Disk Remade SameLog _ _ (λ x y made. made.log) c.in-Err.ensures.runs

pub returns-in_default-clause-runs : goal.returns-in_default-clause-runs
returns-in_default-clause-runs g c =
    log_made g.D.Disk g.met.D.Disk.follows_trans
    (SameOutside 0 256) 0 c.args.disk.now c.empty_index.new.disk c.make.new.disk c.in-Ok.ensures.runs c.in_default.ensures.writes.changes

pub returns-in-Ok-seal_index-clause-runs : goal.returns-in-Ok-seal_index-clause-runs
returns-in-Ok-seal_index-clause-runs g c =
    log_sealed g.D.Disk g.met.D.Disk.follows_trans
    (SameOutside 0 256) 0 c.args.disk.now c.empty_index.new.disk c.make.new.disk c.seal_index.new.disk c.in-Ok.ensures.runs c.in-Ok-make.ensures.writes.changes
    c.in-Ok-seal_index.ensures.runs

pub returns-in-Err-seal_index-clause-runs : goal.returns-in-Err-seal_index-clause-runs
returns-in-Err-seal_index-clause-runs g c =
    log_sealed g.D.Disk g.met.D.Disk.follows_trans
    (SameOutside 0 256) 0 c.args.disk.now c.empty_index.new.disk c.make.new.disk c.seal_index.new.disk c.in-Ok.ensures.runs c.in-Ok-make.ensures.writes.changes
    c.in-Err-seal_index.ensures.runs
