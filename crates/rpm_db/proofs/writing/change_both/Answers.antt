use Rattle.std.proofs.Common.{refl, sym, ◌∙◌, subst, arith, rules}
use Rattle.rpm_db.proofs.Vocabulary.{EndsAsked, IsApplied, KeepsSums, number_asked, number_for, SameLog, Units}
use Rattle.rpm_db.proofs.Batched.{leads_alone, takes_alone}
use Rattle.rpm_db.proofs.Both.{runs_rows}
use Rattle.rpm_db.proofs.Found.{current_in_order}
use Rattle.rpm_db.proofs.Halves.{applied_since, index_crashes, rows_written, state_written, stored_then}
use Rattle.rpm_db.proofs.Refused.{full_written, later_written, never_of_disk}
use Rattle.rpm_db.proofs.PackageChanges.{reads_more}
use Rattle.rpm_db.proofs.Results.{cause_as, map_ok, on_ok}
use Rattle.rpm_db.proofs.Rooms.{room_written}
use Rattle.rpm_db.proofs.Wholes.{whole_sealed}
use Rattle.rpm_db.proofs.laws.Running.{runs_then}
use Rattle.rpm_db.proofs.writing.change_both.Goals as goal

-- ---- what the calls ask for

pub change_store-requires-clause-ready : goal.change_store-requires-clause-ready
change_store-requires-clause-ready g c =
    let r = c.requires.ready in
    record { going = r.going; made = r.made; keeps = r.keeps; quiet = r.quiet; durable = r.durable }

pub change_store-requires-clause-order : goal.change_store-requires-clause-order
change_store-requires-clause-order g c = current_in_order c.args.store.now.generation c.args.index.now c.requires.ready.order

-- ---- the store wasn't changed

pub returns-in-Err-clause-refused : goal.returns-in-Err-clause-refused
returns-in-Err-clause-refused g c = λ refusal.
    let r = c.in-Err.ensures.refused refusal in
    record { store_is = r.0; index_is = refl; runs = r.1; moment = r.2 }

pub returns-in-Err-clause-index : goal.returns-in-Err-clause-index
returns-in-Err-clause-index g c =
    let is = takes_alone g.D.Disk c.args.disk.now c.args.store.now c.args.index.now _ c.none-owed.ensures c.args.request c.requires.own _
    (current_in_order c.args.store.now.generation c.args.index.now c.requires.ready.order) c.requires.ready.units c.in-Err.ensures.takes in
    record { full = is.full; bad = is.bad }

pub returns-in-Err-clause-runs : goal.returns-in-Err-clause-runs
returns-in-Err-clause-runs g c = record { files = c.in-Err.ensures.runs.files; cause = cause_as c.in-Err.fault c.in-Err.ensures.runs.cause }

-- ---- it was, and the index, or the disk failed

pub returns-clause-later : goal.returns-clause-later
returns-clause-later g c = later_written _ _ c.write_rows.result c.in-Ok-Some.ensures.later c.write_rows.ensures.kind

pub returns-clause-room : goal.returns-clause-room
returns-clause-room g c = room_written _ c.args.store.now c.change_store.new.store c.write_rows.result c.in-Ok-Some.ensures.room c.write_rows.ensures.kind

pub returns-clause-index : goal.returns-clause-index
returns-clause-index g c =
    let is = takes_alone g.D.Disk c.args.disk.now c.args.store.now c.args.index.now _ c.none-owed.ensures c.args.request c.requires.own _
    (current_in_order c.args.store.now.generation c.args.index.now c.requires.ready.order) c.requires.ready.units c.in-Ok-Some.ensures.takes in
    record {
      full = λ told has. full_written _ c.write_rows.result (is.full told has) c.write_rows.ensures.kind;
      bad = λ told. never_of_disk _ (g.D.Disk.files c.args.disk.now).idx c.write_rows.result c.write_rows.ensures.kind;
    }

pub returns-clause-end : goal.returns-clause-end
returns-clause-end g c = on_ok c.write_rows.result (λ told.
    subst (EndsAsked c.args.request c.change_store.new.store (g.D.Disk.files c.args.disk.now).pkg) (sym (c.write_rows.ensures.writes.changes.pkg told))
    (c.in-Ok-Some.ensures.end told))

pub returns-clause-sums : goal.returns-clause-sums
returns-clause-sums g c = on_ok c.write_rows.result (λ told.
    subst (λ (u : Units). KeepsSums (number_for (number_asked c.args.request) c.args.store.now) (g.D.Disk.files c.args.disk.now).pkg u c.args.store.now
    c.change_store.new.store) (sym (c.write_rows.ensures.writes.changes.pkg told)) (c.in-Ok-Some.ensures.sums told))

pub returns-clause-reads : goal.returns-clause-reads
returns-clause-reads g c =
    reads_more (number_asked c.args.request) c.args.store.now _ _ _ c.in-Ok-Some.ensures.reads (omega (arith, c.write_rows.ensures.writes.changes.reads.pkg))

pub returns-clause-runs : goal.returns-clause-runs
returns-clause-runs g c = record {
  files = runs_then g.D.Disk g.met.D.Disk.follows_trans SameLog SameLog SameLog _ _ _ (λ x y same. same) (λ x y z p q. q ∙ p)
      c.in-Ok-Some.ensures.runs.files (runs_rows g.D.Disk _ _ _ _ c.write_rows.ensures.writes.changes);
  cause = search rules;
}

pub returns-clause-crashes : goal.returns-clause-crashes
returns-clause-crashes g c = λ told lawful has.
    let r = c.requires.ready in
    let e = c.in-Ok-Some.ensures in
    let planned = rw c.in-Ok-Some.field-0-is at e.plan.is in
    index_crashes g.D.Disk c.args.disk.now c.change_store.new.disk c.write_rows.new.disk told lawful (g.met.D.Disk.as_read c.args.disk.now told)
    c.args.store.now c.change_store.new.store (r.keeps told) r.made _ _ _ c.in-Ok-Some.plan.work e.runs.files (e.index told) e.done c.generation.ensures.value
    ((leads_alone g.D.Disk c.args.disk.now c.args.store.now c.args.index.now _ c.none-owed.ensures c.args.request c.requires.own c.in-Ok-Some.plan.work
    planned).makes told has) (e.crashes told lawful) c.write_rows.ensures.writes.changes

pub returns-clause-done : goal.returns-clause-done
returns-clause-done g c =
    let D = g.D.Disk in
    let old = D.files c.args.disk.now in
    let new = D.files c.write_rows.new.disk in
    let e = c.in-Ok-Some.ensures in
    let put = e.done in
    let after = c.change_store.new.store in
    let index = c.write_rows.new.index in
    let work = c.in-Ok-Some.plan.work in
    let planned = rw c.in-Ok-Some.field-0-is at e.plan.is in
    let leads = leads_alone D c.args.disk.now c.args.store.now c.args.index.now _ c.none-owed.ensures c.args.request c.requires.own work planned in
    let stored = stored_then D after _ _ _ 0 _ _ (λ told. refl) c.write_rows.ensures.writes.changes put.stored in
    map_ok c.write_rows.result (λ (done : IsApplied D c.change_store.new.disk c.write_rows.new.disk c.args.index.now index c.generation.result work).
    let applied : IsApplied D c.args.disk.now c.write_rows.new.disk c.args.index.now index after.generation work =
    applied_since D _ _ _ _ _ _ _ _ e.index c.generation.ensures.value done in
    record {
      ready = record {
        going = put.going;
        made = put.made;
        order = applied.current;
        keeps = stored.kept;
        units = applied.kept;
        quiet = stored.quiet;
        durable = applied.durable;
      };
      generation_is = put.generation_is;
      state_is = λ told. state_written new.pkg after _ _ (stored.blobs_are told) put.field_is;
      stands = stored.stands;
      rows_are = λ told has. rows_written new.pkg old.idx new.idx after _ work _ (stored.blobs_are told) (leads.makes told has) (applied.sealed told);
      reach = λ told has. omega (arith, leads.reach told has, applied.grows);
      whole = λ told whole. whole_sealed _ work old old new.idx refl (planned.whole told whole) (applied.sealed told);
    }) c.write_rows.ensures.applied
