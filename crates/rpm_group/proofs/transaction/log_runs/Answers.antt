mod Places
use Rattle.std.proofs.Common.{IsTrue, ◌≡◌, ℕ, ◌+◌, ◌-◌, ◌<◌, ◌++◌, ◌∷◌, [], length, refl, sym, ap, subst, arith}
use Rattle.rpm_group.proofs.Vocabulary.{begins_run, changed_none, changed_then, count_below, Files, leaves_none, Log, log_units, EntriesOfTable, nothing_none}
use Rattle.rpm_group.proofs.Vocabulary.{nothing_then, number_of_file, with_units, run_entry, unit_of_words, with_file}
use Rattle.rpm_group.proofs.Runs.{length-units_held}
use Rattle.rpm_group.proofs.Countings.{none_begun, log_units_none, gap_begins, gap_counted, run_begins, run_counted}
use Rattle.rpm_group.proofs.Entering.{head_unit, entered_more, entered_heads, put_changed}
use Rattle.rpm_group.proofs.OneRun.{room_here, run_leaves}
use Rattle.rpm_group.proofs.LoggedLaws.{logged_none, logged_gap, logged_more}
use Rattle.rpm_group.proofs.transaction.log_runs.Answers.Places as places
use Rattle.rpm_group.proofs.transaction.log_runs.Goals as goal

pub loop-at-init : goal.loop-at-init
loop-at-init g c =
    let D = g.D.Disk in
    let old = c.args.disk.now in
    let table = c.args.pages.now.table.items in
    record {
      end = omega arith;
      starts = λ some. absurd (omega (arith, some));
      place = omega (arith, log_units_none table);
      count = omega (arith, none_begun table);
      logged = λ told. ([], logged_none c.args.file table (none_begun table), refl, tt);
      changed = λ told. changed_none Log c.args.tail.at (c.args.tail.at + log_units table c.args.pages.now.end) (D.files old);
      images = λ told. leaves_none D Log c.args.tail.at (c.args.tail.at + log_units table c.args.pages.now.end) old;
      reads = nothing_none _ g.met.D.Disk.follows_refl old;
      faults = omega arith;
    }

pub log_run-requires-clause-room : goal.log_run-requires-clause-room
log_run-requires-clause-room = places.log_run-requires-clause-room

pub overflow_add-next : goal.overflow_add-next
overflow_add-next = places.overflow_add-next

pub overflow_add-next-then-first-stop : goal.overflow_add-next-then-first-stop
overflow_add-next-then-first-stop = places.overflow_add-next-then-first-stop

pub overflow_add-next-then-first-stop-2 : goal.overflow_add-next-then-first-stop-2
overflow_add-next-then-first-stop-2 = places.overflow_add-next-then-first-stop-2

pub returns-in_err-log_run-clause-images : goal.returns-in_err-log_run-clause-images
returns-in_err-log_run-clause-images g c = λ told.
    let D = g.D.Disk in
    let inv = c.loop-at.invariant in
    let old = c.args.disk.now in
    let now = c.loop-at.disk in
    let table = c.args.pages.now.table.items in
    let first = c.next_unit-first in
    let stop = c.next_unit-stop in
    let upto = c.args.tail.at + log_units table c.args.pages.now.end in
    let room = room_here {most = upto} table c.loop-at.next.at c.args.tail.at c.loop-at.at first.result stop.result c.args.pages.now.end inv.place
    (run_counted table c.loop-at.at first.result first.ensures.from first.ensures.between stop.result c.if-first-stop.true stop.ensures.between
    (λ some. inv.starts some c.loop-at-test.true)) stop.ensures.end (omega arith) in
    run_leaves D c.args.tail.at c.loop-at.next.at (c.loop-at.next.at + 1 + (stop.result - first.result)) upto old now
    c.log_run.new.disk (omega (arith, inv.place)) room
    (λ image left. g.met.D.Disk.earlier now (D.moment old) (D.moment now) image told inv.reads.later (omega arith) left)
    (inv.images told) (c.log_run.ensures.images told)

pub loop-at-preserved-in_ok-log_run : goal.loop-at-preserved-in_ok-log_run
loop-at-preserved-in_ok-log_run g c =
    let D = g.D.Disk in
    let inv = c.loop-at.invariant in
    let old = c.args.disk.now in
    let now = c.loop-at.disk in
    let table = c.args.pages.now.table.items in
    let first = c.next_unit-first in
    let stop = c.next_unit-stop in
    let starts = λ (some : 0 < c.loop-at.at). inv.starts some c.loop-at-test.true in
    let counted = run_counted table c.loop-at.at first.result first.ensures.from first.ensures.between stop.result c.if-first-stop.true
    stop.ensures.between starts in
    let begun = run_begins table c.loop-at.at first.result first.ensures.from first.ensures.between stop.result c.if-first-stop.true
    stop.ensures.between starts in
    let upto = c.args.tail.at + log_units table c.args.pages.now.end in
    let room = room_here {most = upto} table c.loop-at.next.at c.args.tail.at c.loop-at.at first.result stop.result c.args.pages.now.end inv.place
    counted stop.ensures.end (omega arith) in
    let entry = run_entry c.args.file table first.result stop.result in
    let long : length entry.units ≡ stop.result - first.result = length-units_held table first.result (stop.result - first.result) in
    let place = c.loop-at.next.at in
    let log = (D.files c.log_run.new.disk).log in
    let written = λ (told : IsTrue D.tells). subst (λ (n : ℕ). D.files c.log_run.new.disk ≡ with_file Log
    (with_units place (unit_of_words (number_of_file c.args.file) first.result n 0 ∷ entry.units) (D.files now).log) (D.files now))
    (sym long) (c.in_ok-log_run.ensures.written told) in
    record {
      end = stop.ensures.end;
      starts = λ some below. stop.ensures.found below;
      place = omega (arith, inv.place, counted);
      count = omega (arith, inv.count, begun);
      logged = λ told.
          let so_far = inv.logged told in
          let is = ap (λ (f : Files). f.log) (written told) in (
            so_far.0 ++ entry ∷ [],
            logged_more so_far.0 c.args.file table c.loop-at.at first.result so_far.1 first.ensures.from first.ensures.between stop.result
                c.if-first-stop.true stop.ensures.between begun,
            entered_more entry place (D.files now).log log is c.requires.not_log (omega (arith, long, c.if-first-stop.true))
                (omega (arith, long, c.if-first-stop.true, stop.ensures.end, c.args.pages.now.small)) so_far.0 c.args.tail.at
                (place + 1 + (stop.result - first.result)) so_far.2 (omega (arith, long)),
            entered_heads entry place (D.files now).log log is c.requires.not_log (omega (arith, long, c.if-first-stop.true))
                (omega (arith, long, c.if-first-stop.true, stop.ensures.end, c.args.pages.now.small)) so_far.0 c.args.tail.at so_far.2 so_far.3,
          );
      changed = λ told.
          changed_then Log c.args.tail.at upto (D.files old) (D.files now) (D.files c.log_run.new.disk) (inv.changed told)
          (put_changed place (place + 1 + (stop.result - first.result)) c.args.tail.at upto (head_unit entry ∷ entry.units) (D.files now)
          (D.files c.log_run.new.disk) (omega (arith, long)) (omega (arith, inv.place)) room (written told));
      images = λ told.
          run_leaves D c.args.tail.at place (place + 1 + (stop.result - first.result)) upto old now c.log_run.new.disk
          (omega (arith, inv.place)) room
          (λ image left. g.met.D.Disk.earlier now (D.moment old) (D.moment now) image told inv.reads.later (omega arith) left)
          (inv.images told) (c.log_run.ensures.images told);
      reads = nothing_then _ g.met.D.Disk.follows_trans old now c.log_run.new.disk inv.reads c.log_run.ensures.reads.nothing;
      faults = omega (arith, inv.faults, c.log_run.ensures.reads.cause.later);
    }

pub loop-at-preserved : goal.loop-at-preserved
loop-at-preserved g c =
    let inv = c.loop-at.invariant in
    let table = c.args.pages.now.table.items in
    let first = c.next_unit-first in
    let stop = c.next_unit-stop in
    let same : stop.result ≡ first.result = omega (arith, c.if-first-stop.false, stop.ensures.from) in
    let begun = gap_begins table c.loop-at.at first.result first.ensures.from first.ensures.between in
    let cost = gap_counted table c.loop-at.at first.result first.ensures.from first.ensures.between in
    record {
      end = stop.ensures.end;
      starts = λ some below. stop.ensures.found below;
      place = omega (arith, inv.place, cost, ap (λ (i : ℕ). log_units table i) same);
      count = omega (arith, inv.count, begun, ap (λ (i : ℕ). count_below (begins_run table) i) same);
      logged = λ told.
          let so_far = inv.logged told in (
            so_far.0,
            subst (λ (i : ℕ). EntriesOfTable so_far.0 c.args.file table i) (sym same)
                (logged_gap so_far.0 c.args.file table c.loop-at.at first.result so_far.1 first.ensures.from first.ensures.between begun),
            so_far.2,
            so_far.3,
          );
      changed = inv.changed;
      images = inv.images;
      reads = inv.reads;
      faults = inv.faults;
    }
