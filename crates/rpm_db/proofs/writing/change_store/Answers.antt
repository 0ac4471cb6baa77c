use Rattle.std.proofs.Common.{ℕ, ◌+◌, List, Ok, Err, refl, sym, ap, ◌∙◌, subst, arith}
use Rattle.rpm_db.proofs.Vocabulary.{Anything, blobs, CanEdit, edited_blobs, edited_number, EditReaches, FitsAsked, Files, IsForeseen, KeepsSums}
use Rattle.rpm_db.proofs.Vocabulary.{RowChange, Store, store, TakesRows}
use Rattle.rpm_pkgdb.specs.Store as pkgdb
use Rattle.rpm_db.proofs.Both.{runs_store}
use Rattle.rpm_db.proofs.PackageChanges.{aside_disk, asked_edit, ends_of, field_is, map_is, reads_asked, room_done, room_none, room_refused, rows_told, crashes_asked, sums_are}
use Rattle.rpm_db.proofs.Refused.{later_of_index, not_spent}
use Rattle.rpm_db.proofs.Results.{cause_as, cause_done, err_as}
use Rattle.rpm_db.proofs.Unwritten.{log_same, log_then, durable_same, crashes_refused}
use Rattle.rpm_db.proofs.writing.change_store.Goals as goal

-- ---- what gathering its rows and the write ask for

pub gather_rows-requires-clause-store : goal.gather_rows-requires-clause-store
gather_rows-requires-clause-store g c = λ told.
    subst (pkgdb.KeepsStore (g.D.Disk.files c.args.disk.now).pkg) (sym c.in-Ok.ensures.value) (c.requires.ready.keeps told)

pub edit_raised-requires-clause-ready : goal.edit_raised-requires-clause-ready
edit_raised-requires-clause-ready g c =
    let e = c.in-Ok.ensures in
    let same = c.in-Ok-gather_rows.ensures.runs.reads_as in
    record {
      going = ap (λ (v : Store). v.is_stopped) e.value ∙ c.requires.ready.going;
      made = e.made;
      keeps = λ told. subst (pkgdb.KeepsStore (g.D.Disk.files c.gather_rows.new.disk).pkg) (sym e.value)
          (ap (λ (f : Files). store f.pkg) (same told) ∙ c.requires.ready.keeps told);
    }

pub edit_raised-requires-clause-can : goal.edit_raised-requires-clause-can
edit_raised-requires-clause-can g c =
    subst (λ (b : List ℕ). CanEdit c.in-Ok.edit b c.plan_edit.new.store) (sym c.bytes_of.ensures) c.in-Ok.ensures.planned.1

-- ---- it wasn't planned

pub returns-in-Err-clause-room : goal.returns-in-Err-clause-room
returns-in-Err-clause-room g c = room_none c.args.store.now c.args.request c.in-Err.fault c.in-Err.ensures.planned c.in-Err.ensures.later

pub returns-in-Err-clause-spent : goal.returns-in-Err-clause-spent
returns-in-Err-clause-spent g c = λ is. (refl, c.in-Err.ensures.spent (err_as _ _ is), refl)

-- ---- the index has no room, or memory was refused

pub returns-in-Err-gather_rows : goal.returns-in-Err-gather_rows
returns-in-Err-gather_rows g c =
    let e = c.in-Ok.ensures in
    let x = c.in-Err-gather_rows.ensures in
    let fault = c.in-Err-gather_rows.fault in
    let file = (g.D.Disk.files c.args.disk.now).pkg in
    let p = asked_edit {asked = c.args.request} e.value e.planned refl in
    record {
      later = later_of_index _ _ fault x.kinds e.later.0 e.later.1;
      room = room_refused p fault x.kinds;
      made = e.made;
      done = tt;
      gathered = tt;
      takes = λ told.
          (let takes = subst (λ (o : RowChange). TakesRows g.D.Disk {A = Unit {0}} c.args.disk.now o (FitsAsked c.args.request) (Err fault))
          (rows_told file c.args.request c.args.store.now c.plan_edit.new.store c.args.owed.now e.value)
          (let t = x.takes told in record { full = t.full; bad = t.bad }) in
          record { full = takes.full; bad = takes.bad });
      plan = tt;
      aside = x.aside;
      end = tt;
      index = λ told. ap (λ (f : Files). f.idx) (x.runs.reads_as told);
      sums = tt;
      spent = λ is. absurd (not_spent fault x.kinds is);
      refused = λ refusal. (sym e.same, x.runs, x.moment);
      crashes = λ told lawful. crashes_refused _ _ g.D.Disk _ _ told lawful x.runs;
      reads = reads_asked p _ _ (omega (arith, x.reads));
      runs = record { files = log_same g.D.Disk _ _ x.runs; cause = cause_as fault x.cause };
    }

-- ---- the store was written, in part

pub returns-in-Err-edit_raised-clause-aside : goal.returns-in-Err-edit_raised-clause-aside
returns-in-Err-edit_raised-clause-aside g c = λ is. aside_disk c.args.request

pub returns-in-Err-edit_raised-clause-index : goal.returns-in-Err-edit_raised-clause-index
returns-in-Err-edit_raised-clause-index g c = λ told.
    c.in-Err-edit_raised.ensures.writes.changes.idx told ∙ ap (λ (f : Files). f.idx) (c.in-Ok-gather_rows.ensures.runs.reads_as told)

pub returns-in-Err-edit_raised-clause-crashes : goal.returns-in-Err-edit_raised-clause-crashes
returns-in-Err-edit_raised-clause-crashes g c = λ told lawful.
    let e = c.in-Ok.ensures in
    let run = c.in-Ok-gather_rows.ensures.runs in
    let p = asked_edit {asked = c.args.request} e.value e.planned c.bytes_of.ensures in
    crashes_asked p g.D.Disk _ _ _ told lawful (g.met.D.Disk.as_read c.args.disk.now told) run c.requires.ready
    (rw (run.reads_as told) at (c.in-Err-edit_raised.ensures.images told))

pub returns-in-Err-edit_raised-clause-reads : goal.returns-in-Err-edit_raised-clause-reads
returns-in-Err-edit_raised-clause-reads g c =
    let e = c.in-Ok.ensures in
    let p = asked_edit {asked = c.args.request} e.value e.planned c.bytes_of.ensures in
    reads_asked p _ _ (omega (arith, c.in-Ok-gather_rows.ensures.reads, c.in-Err-edit_raised.ensures.writes.changes.reads.pkg))

pub returns-in-Err-edit_raised-clause-runs : goal.returns-in-Err-edit_raised-clause-runs
returns-in-Err-edit_raised-clause-runs g c =
    let x = c.in-Ok-gather_rows.ensures in
    let w = c.in-Err-edit_raised.ensures.writes in
    record {
      files = log_then g.D.Disk g.met.D.Disk.follows_trans _ _ _ x.runs (runs_store g.D.Disk Anything _ _ _ w.changes);
      cause = record { later = omega (arith, x.cause.later, w.cause.later); rose = λ is. omega (arith, x.cause.later, w.cause.failed) };
    }

-- ---- or whole

pub returns-in-Ok-edit_raised : goal.returns-in-Ok-edit_raised
returns-in-Ok-edit_raised g c =
    let e = c.in-Ok.ensures in
    let w = c.in-Ok-edit_raised.ensures in
    let x = c.in-Ok-gather_rows.ensures in
    let run = x.runs in
    let it = c.in-Ok.edit in
    let plan = c.in-Ok-gather_rows.rows in
    let file = (g.D.Disk.files c.args.disk.now).pkg in
    let p = asked_edit {asked = c.args.request} e.value e.planned c.bytes_of.ensures in
    let rows = rows_told file c.args.request c.args.store.now c.plan_edit.new.store c.args.owed.now e.value in
    record {
      later = e.later;
      room = room_done p c.edit_raised.new.store plan w.edit;
      made = omega (arith, w.edit.pages, e.made);
      done = record {
        going = w.edit.going ∙ ap (λ (v : Store). v.is_stopped) e.value ∙ c.requires.ready.going;
        made = omega (arith, w.edit.pages, e.made);
        generation_is = w.edit.generation ∙ ap (λ (v : Store). v.generation + 1) e.value;
        field_is = w.edit.field ∙ field_is p;
        stored = record {
          kept = w.stored.kept;
          blobs_are = λ told.
              w.stored.blobs_are told
              ∙ ap (λ (f : Files). edited_blobs it c.bytes_of.result.now (blobs f.pkg c.plan_edit.new.store)) (run.reads_as told) ∙ map_is p file;
          quiet = w.stored.quiet;
          stands = w.stored.stands;
        };
        durable = λ told image here.
            (let moved = w.writes.changes.now told image here in
            moved.idx ∙ durable_same g.D.Disk _ _ told run (c.requires.ready.durable told) moved.from moved.was ∙ sym (w.writes.changes.idx told));
      };
      sums = λ told.
          sums_are p file (g.D.Disk.files c.edit_raised.new.disk).pkg c.edit_raised.new.store
          (subst (λ (f : Files). KeepsSums (edited_number it) f.pkg (g.D.Disk.files c.edit_raised.new.disk).pkg c.plan_edit.new.store
          c.edit_raised.new.store) (run.reads_as told) (w.sums told));
      gathered = λ told. x.gathered told ∙ rows;
      takes = λ told.
          (let takes = subst (λ (o : RowChange). TakesRows g.D.Disk {A = Unit {0}} c.args.disk.now o (FitsAsked c.args.request) (Ok tt)) rows
          (let t = x.takes told in record { full = t.full; bad = λ told'. tt }) in
          record { full = takes.full; bad = λ told'. tt });
      plan = subst (λ (o : RowChange). IsForeseen g.D.Disk c.args.disk.now c.args.index.now o c.args.ahead plan) rows x.plan;
      aside = λ is. tt;
      end = λ told.
          ends_of c.args.request it c.args.store.now c.edit_raised.new.store file (g.D.Disk.files c.edit_raised.new.disk).pkg e.planned.0
          (subst (λ (old : Files). EditReaches it c.edit_raised.new.store old.pkg (g.D.Disk.files c.edit_raised.new.disk).pkg) (run.reads_as told)
          (w.end told));
      index = λ told. w.writes.changes.idx told ∙ ap (λ (f : Files). f.idx) (run.reads_as told);
      spent = λ is. absurd cc;
      refused = tt;
      crashes = λ told lawful.
          crashes_asked p g.D.Disk _ _ _ told lawful (g.met.D.Disk.as_read c.args.disk.now told) run c.requires.ready
          (rw (run.reads_as told) at (w.images told));
      reads = reads_asked p _ _ (omega (arith, x.reads, w.writes.changes.reads.pkg));
      runs = record {
        files = log_then g.D.Disk g.met.D.Disk.follows_trans _ _ _ run (runs_store g.D.Disk Anything _ _ _ w.writes.changes);
        cause = cause_done _ x.cause w.writes.cause.later;
      };
    }
