use Rattle.std.proofs.Common.{◌≡◌, ◌+◌, ◌≤◌, true, Err, sym, ap, ◌∙◌, subst, ⊎_elim, arith}
use Rattle.std.specs.Prelude.{IsTrue}
use Rattle.rpm_commit.proofs.Vocabulary.{changes_index, Course, EmptyBy, Files, images, is_anew, is_of_streams, IsLawful, laid_files, LimitsBy, Log}
use Rattle.rpm_commit.proofs.Vocabulary.{KeepsLog, log_state, needs_none, overlay_below, overlay_held, overlay_read, overlay_starved, reads_shelf}
use Rattle.rpm_commit.proofs.Vocabulary.{recovered_kept, reopened_files}
use Rattle.rpm_commit.proofs.Vocabulary.{ReopensAsOneOf, Rose, shown_outputs, State, task_course, task_parts, without_log, why_of, why_of_load, why_of_recover}
use Rattle.rpm_commit.proofs.Vocabulary.{with_file, Work}
use Rattle.rpm_effects.specs.declared.answer.Why.TheVariants as why
use Rattle.rpm_commit.proofs.laws.Emptied.{transaction_empty, same_empty}
use Rattle.rpm_commit.proofs.Ends.{below_same, below_run}
use Rattle.rpm_commit.proofs.Transactions.{transaction_one}
use Rattle.rpm_commit.proofs.laws.Recovered.{leaves_on}
use Rattle.rpm_commit.proofs.laws.Standing.{shut_stands}
use Rattle.rpm_commit.proofs.laws.Unmade.{early_load, early_recover, unmade_one}
use Rattle.rpm_commit.proofs.changing.change_asked.Goals as goal

pub returns-in-Ok-load-clause-answers : goal.returns-in-Ok-load-clause-answers
returns-in-Ok-load-clause-answers g c = λ words told shelf.
    let D = g.D.Disk in
    let first = c.recover.new.disk in
    let end = c.change_on-ended.new.disk in
    let last = overlay_below end in
    let final = c.end_transaction.result.1 in
    let new = laid_files (overlay_held end) (D.files last) in
    let log = (D.files first).log in
    let recovered = c.in-Ok.ensures in
    let works = c.change_on-ended.ensures.works in
    let t = task_parts c.args.task.now in
    let course : State → Course = task_course (g.S.Shelf.paths c.args.shelf.now) c.args.now t in
    let ended = c.change_on-ended.result in
    let given = c.end_transaction.result.0.why in
    let n = c.end_transaction.result.0.changes in
    let ends = c.end_transaction.ensures.ends told in
    let looks = c.in-Ok-load.ensures.looks in
    let mid = overlay_below c.in-Ok-load.overlay in
    let ro = overlay_read D c.in-Ok-load.overlay in
    let rn = overlay_read D end in
    let before = shown_outputs g.O.Sink g.E.Sink c.args.out.now c.args.err.now in
    let now = shown_outputs g.O.Sink g.E.Sink c.change_on-ended.new.out c.change_on-ended.new.err in
    let telling : IsTrue D.tells × (reads_shelf t ≡ true → IsTrue g.S.Shelf.tells) = (told, shelf) in
    let laid = c.in-Ok-load.ensures.files told ∙ ap (λ (f : Files). with_file Log log f) (recovered.stands told) in
    let worked = subst (λ (f : Files). Work (is_anew t) (changes_index t) course f new ended before now) laid (works.worked telling) in
    let met = subst (λ (f : Files). LimitsBy (is_anew t) (IsLawful f.pkg f.idx) course f (why_of ended)) laid (works.limits telling) in
    let same = ap without_log (below_same D first mid last ro rn looks works.runs.goes_on told)
    ∙ sym (shut_stands (D.files first) (recovered.closed told)) ∙ recovered.stands told in
    let as_read = g.met.D.Disk.earlier final (D.moment last) (D.moment final) (D.files final) told ends.leaves.later (omega arith)
    (g.met.D.Disk.as_read final told) in
    (transaction_one D words t course c.args.disk last final log new before now (g.met.D.Disk.as_read c.args.disk told) _ (recovered.says told)
    (below_run D first mid last ro rn looks works.runs.goes_on told c.args.disk (ReopensAsOneOf (images D c.args.disk)) (recovered.images told)) same as_read
    ended given n worked met works.halted ends (c.end_transaction.ensures.log told))

pub returns-in-Ok-load-clause-empty : goal.returns-in-Ok-load-clause-empty
returns-in-Ok-load-clause-empty g c = λ told.
    let needs = needs_none (task_parts c.args.task.now) in
    let r = reopened_files (g.D.Disk.files c.recover.new.disk) in
    let ended = c.change_on-ended.result in
    let given = c.end_transaction.result.0.why in
    (subst (λ (f : Files). EmptyBy needs f given) (c.in-Ok.ensures.stands told)
    (transaction_empty needs r ended given c.end_transaction.result.0.changes (c.end_transaction.ensures.ends told).says
    (same_empty needs _ r (why_of ended) (ap (λ (f : Files). f.pkg) (c.in-Ok-load.ensures.files told)) (c.change_on-ended.ensures.works.empty told))))

pub returns-in-Ok-load-clause-keeps : goal.returns-in-Ok-load-clause-keeps
returns-in-Ok-load-clause-keeps g c =
    let D = g.D.Disk in
    let said = c.end_transaction.ensures in
    let works = c.change_on-ended.ensures.works in
    let goes = g.met.D.Disk.follows_trans in
    let old = c.args.disk in
    let first = c.recover.new.disk in
    let mid = overlay_below c.in-Ok-load.overlay in
    let end = c.change_on-ended.new.disk in
    let last = overlay_below end in
    let final = c.end_transaction.result.1 in
    let start : D.faults old ≤ D.faults mid = omega (arith, c.in-Ok.ensures.cause.later, c.in-Ok-load.ensures.cause.later) in
    let so_far : D.faults mid ≤ D.faults last = works.runs.goes_on.later in
    let later : D.faults last ≤ D.faults final = said.later in
    let by_commit : Rose (D.faults last) (D.faults final) → Rose (D.faults old) (D.faults final) = λ higher. omega (arith, start, so_far, higher) in
    let before_it : (c.change_on-ended.result ≡ Err why.DiskFault) × (overlay_starved end ≡ 0) → Rose (D.faults old) (D.faults final) =
    λ both. (let rose : Rose (D.faults mid + overlay_starved c.in-Ok-load.overlay) (D.faults last + overlay_starved end) = works.disk.rose both.0 in
    let none : overlay_starved end ≡ 0 = both.1 in
    omega (arith, start, rose, none, later)) in
    record {
      counted = said.counted;
      of_words = said.of_words;
      goes_on = goes old last final (goes old mid last (goes old first mid c.in-Ok.ensures.reads.goes_on c.in-Ok-load.ensures.looks.goes_on)
          works.runs.goes_on.below) said.goes_on;
      disk = record { later = omega (arith, start, so_far, later); rose = λ is. ⊎_elim by_commit before_it (said.disk is) };
    }

pub returns-in-Ok-load-clause-streams : goal.returns-in-Ok-load-clause-streams
returns-in-Ok-load-clause-streams g c =
    let streams = c.change_on-ended.ensures.streams in
    let kept = c.end_transaction.ensures.kept in
    let out = streams.hands.out in
    let err = streams.hands.err in
    record {
      unread = streams.unread;
      paths = streams.paths;
      shelf = record { later = streams.shelf.later; rose = λ is. streams.shelf.rose (kept (ap is_of_streams is) ∙ ap Err is) };
      hands = record {
        out = record {
          cause = record { later = out.cause.later; rose = λ is. out.cause.rose (kept (ap is_of_streams is) ∙ ap Err is) };
          goes_on = out.goes_on;
        };
        err = record {
          cause = record { later = err.cause.later; rose = λ is. err.cause.rose (kept (ap is_of_streams is) ∙ ap Err is) };
          goes_on = err.goes_on;
        };
      };
    }

-- ---- not loaded

pub returns-in-Err-load-clause-answers : goal.returns-in-Err-load-clause-answers
returns-in-Err-load-clause-answers g c = λ words told shelf.
    let D = g.D.Disk in
    let first = c.recover.new.disk in
    let back = c.in-Err-load.refused.disk in
    let fault = c.in-Err-load.refused.why in
    let looks = c.in-Err-load.ensures.looks in
    let recovered = c.in-Ok.ensures in
    let t = task_parts c.args.task.now in
    rw (c.unchanged.ensures, c.why_of_load.ensures)
    (unmade_one D words t (task_course (g.S.Shelf.paths c.args.shelf.now) c.args.now t) c.args.disk back
    (ap reopened_files (looks.untouched told).same ∙ recovered.stands told)
    (subst (λ (f : Files). KeepsLog (D.files c.args.disk) f) (sym (looks.untouched told).same)
    (recovered_kept (D.files c.args.disk) (D.files first) (recovered.kept told)))
    (leaves_on D c.args.disk first back (ReopensAsOneOf (images D c.args.disk)) looks.moment_stays (looks.untouched told).images (recovered.images told))
    (shown_outputs g.O.Sink g.E.Sink c.args.out.now c.args.err.now) (why_of_load fault)
    (early_load (log_state (D.files c.args.disk).log) (log_state (D.files first).log) (recovered.closed told) fault (c.in-Err-load.ensures.says told)))

-- ---- not recovered

pub returns-in-Err-clause-answers : goal.returns-in-Err-clause-answers
returns-in-Err-clause-answers g c = λ words told shelf.
    let first = c.in-Err.ensures in
    let fault = c.in-Err.fault in
    let t = task_parts c.args.task.now in
    rw (c.unchanged-in-Err.ensures, c.why_of_recover.ensures)
    (unmade_one g.D.Disk words t (task_course (g.S.Shelf.paths c.args.shelf.now) c.args.now t) c.args.disk c.recover.new.disk (first.stands told)
    (recovered_kept (g.D.Disk.files c.args.disk) (g.D.Disk.files c.recover.new.disk) (first.kept told)) (first.images told)
    (shown_outputs g.O.Sink g.E.Sink c.args.out.now c.args.err.now) (why_of_recover fault)
    (early_recover (log_state (g.D.Disk.files c.args.disk).log) fault (first.says told)))
