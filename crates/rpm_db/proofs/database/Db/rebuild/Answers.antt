use Rattle.std.proofs.Common.{◌≡◌, ◌≤◌, ◌^◌, false, sym, ap, ◌∙◌, subst}
use Rattle.rpm_db.proofs.Vocabulary.{Database, packages, ReachesMade, store_of, rows, Store, store, units_for}
use Rattle.rpm_pkgdb.specs.Store as pkgdb
use Rattle.rpm_db.proofs.Opened.{stays_lawful}
use Rattle.rpm_db.proofs.Rebuilt.{rebuilt, serving_now}
use Rattle.rpm_db.proofs.database.Db.rebuild.Goals as goal

pub returns-in-Ok-clause-rebuilt : goal.returns-in-Ok-clause-rebuilt
returns-in-Ok-clause-rebuilt g c = λ told.
    let e = c.in-Ok.ensures in
    let old = g.D.Disk.files c.args.disk.now in
    let new = g.D.Disk.files c.remake.new.disk in
    let value = c.self.inside.store in
    let same : value ≡ store_of c.args.self.now = ap store_of c.self.view_is in
    let going : c.args.self.now.stopped ≡ false = sym (ap (λ (db : Database). db.stopped) c.self.view_is) ∙ c.if-self.false in
    let keeps = subst (pkgdb.KeepsStore old.pkg) (sym same) (c.requires.keeps going told) in (
      subst (λ (s : Store). units_for (rows (packages old.pkg s)) ≤ 2 ^ 28) same (e.full told),
      c.if-self.false,
      e.remade.kept told,
      rebuilt old new value c.remake.new.index c.self.inside.is_stopped (e.runs.reads_as told) keeps e.some e.remade.order (e.remade.kept told)
          (e.remade.index_of told),
    )

pub returns-in-Ok-clause-renewed : goal.returns-in-Ok-clause-renewed
returns-in-Ok-clause-renewed g c =
    let e = c.in-Ok.ensures in
    let old = g.D.Disk.files c.args.disk.now in
    let new = c.remake.new.disk in
    let going : c.args.self.now.stopped ≡ false = sym (ap (λ (db : Database). db.stopped) c.self.view_is) ∙ c.if-self.false in
    let same : c.self.inside.store ≡ store_of c.args.self.now = ap store_of c.self.view_is in
    record {
      going = c.if-self.false;
      serving = λ told.
          serving_now (g.D.Disk.files new) (g.D.Disk.left_since new (g.D.Disk.moment new)) c.self.inside.store c.remake.new.index
          c.self.inside.is_stopped (ap store (e.runs.reads_as told).pkg ∙ subst (pkgdb.KeepsStore old.pkg) (sym same) (c.requires.keeps going told))
          (e.remade.kept told) (e.remade.pkg told) (e.remade.durable told);
      pkg = e.remade.pkg;
      durable = e.remade.durable;
      reach = λ told.
          subst (λ (s : Store). ReachesMade (units_for (rows (packages old.pkg s))) old.idx (g.D.Disk.files new).idx) same (e.reach told);
    }

pub returns-in-Ok-clause-crashes : goal.returns-in-Ok-clause-crashes
returns-in-Ok-clause-crashes g c = λ told. stays_lawful g.D.Disk _ _ told c.in-Ok.ensures.runs

pub returns-in-Err-IndexFull-clause-crashes : goal.returns-in-Err-IndexFull-clause-crashes
returns-in-Err-IndexFull-clause-crashes g c = λ told. stays_lawful g.D.Disk _ _ told c.in-Err-IndexFull.ensures.runs

pub returns-in-Err-NoMemory-clause-crashes : goal.returns-in-Err-NoMemory-clause-crashes
returns-in-Err-NoMemory-clause-crashes g c = λ told. stays_lawful g.D.Disk _ _ told c.in-Err-NoMemory.ensures.runs

pub returns-in-Err-DiskFault-clause-crashes : goal.returns-in-Err-DiskFault-clause-crashes
returns-in-Err-DiskFault-clause-crashes g c = λ told. stays_lawful g.D.Disk _ _ told c.in-Err-DiskFault.ensures.runs
