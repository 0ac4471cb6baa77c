use Rattle.std.proofs.Common.{subst}
use Rattle.rpm_db.proofs.Vocabulary.{Files, IsOpenedOn, ReachesMade, store, units_needed}
use Rattle.rpm_db.proofs.Making.{remade_both}
use Rattle.rpm_db.proofs.Opened.{stays_lawful}
use Rattle.rpm_db.proofs.Results.{map_if_ok}
use Rattle.rpm_db.proofs.database.Db.open.Goals as goal

pub returns-in-Ok-clause-runs : goal.returns-in-Ok-clause-runs
returns-in-Ok-clause-runs g c =
    remade_both g.D.Disk g.met.D.Disk.follows_trans c.in-Ok.ensures.runs c.open_durable.ensures.runs

pub returns-in-Ok-clause-crashes : goal.returns-in-Ok-clause-crashes
returns-in-Ok-clause-crashes g c = λ told. stays_lawful g.D.Disk _ _ told (returns-in-Ok-clause-runs g c)

pub returns-in-Err-clause-crashes : goal.returns-in-Err-clause-crashes
returns-in-Err-clause-crashes g c = λ told. stays_lawful g.D.Disk _ _ told c.in-Err.ensures.runs

pub returns-in-Ok-clause-served : goal.returns-in-Ok-clause-served
returns-in-Ok-clause-served g c =
    let D = g.D.Disk in
    let new = D.files c.open_durable.new.disk in
    map_if_ok c.open_durable.result (λ db (s : IsOpenedOn D c.sync_both.new.disk c.open_durable.new.disk db). record {
      fresh = s.fresh;
      quiet = s.quiet;
      durable = s.durable;
      index_durable = s.index_durable;
      reach = λ told.
          subst (λ (f : Files). ReachesMade (units_needed f.pkg (store f.pkg)) f.idx new.idx) (c.in-Ok.ensures.same told) (s.reach told);
    }) c.open_durable.ensures.served
