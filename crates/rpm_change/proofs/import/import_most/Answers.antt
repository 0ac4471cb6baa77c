use Rattle.std.proofs.Common.{◌≡◌, Ok, Err, refl, min, arith}
use Rattle.std.specs.Prelude.{codes}
use Rattle.rpm_change.proofs.Vocabulary.{absent_line, bytes_at, err_is, err_stopped, course_of_failure, import_list, bytes_left, list_course, ready_line}
use Rattle.rpm_change.proofs.Vocabulary.{ToErr, went_as, whole_step}
use Rattle.rpm_change.proofs.Filed.{opened_is}
use Rattle.rpm_change.proofs.Halted.{index_halts}
use Rattle.rpm_change.proofs.Imported.{once, went_once}
use Rattle.rpm_change.proofs.laws.Owing.{list_finished, list_stopped, list_unfinished, owing_begun}
use Rattle.rpm_change.proofs.import.import_most.Goals as goal

pub import_all-requires-clause-gathering : goal.import_all-requires-clause-gathering
import_all-requires-clause-gathering g c =
    let b = c.begin-batch.ensures in rw b.same (owing_begun g.D.Disk c.requires.ready b.goes b.order b.sealed b.none).gathering

pub returns-in_err-tally-in-Ok-clause-went : goal.returns-in_err-tally-in-Ok-clause-went
returns-in_err-tally-in-Ok-clause-went g c =
    let rest = g.S.Shelf.rest c.open.new.self in
    let course = list_course c.args.most 1 (bytes_left rest) in
    let found = bytes_at (g.S.Shelf.paths c.args.shelf.now) (codes "-") in
    let b = c.begin-batch.ensures in
    rw (err_is c.from_residual.result c.from_residual.ensures) (went_as g.D.Disk (once course) (import_list c.args.most found) (λ both. both)
    (λ both. let opened = c.in-Ok.ensures.opened both.1 in rw (opened_is found rest opened.0 opened.1) refl) (λ s t e. e)
    (went_once g.D.Disk g.E.Sink c.args.err.now c.import_all.new.err course (Err _)
    (list_stopped g.D.Disk c.requires.ready b.goes b.order b.sealed b.none (λ both. both.0) (rw b.same at c.in_err-tally-in-Ok.ensures.went))))

pub returns-in-Ok-finish-clause-went : goal.returns-in-Ok-finish-clause-went
returns-in-Ok-finish-clause-went g c =
    let rest = g.S.Shelf.rest c.open.new.self in
    let course = list_course c.args.most 1 (bytes_left rest) in
    let found = bytes_at (g.S.Shelf.paths c.args.shelf.now) (codes "-") in
    let b = c.begin-batch.ensures in
    let f = c.in-Ok-finish.ensures in
    let low : c.min.result ≡ min 1 c.in_ok-tally-in-Ok.tally.failed = omega (arith, c.min.ensures) in
    rw low (went_as g.D.Disk (once course) (import_list c.args.most found) (λ both. both)
    (λ both. let opened = c.in-Ok.ensures.opened both.1 in rw (opened_is found rest opened.0 opened.1) refl) (λ s t e. e)
    (went_once g.D.Disk g.E.Sink c.args.err.now c.import_all.new.err course (Ok c.in_ok-tally-in-Ok.tally)
    (list_finished g.D.Disk c.requires.ready b.goes b.order b.sealed b.none (λ both. both.0) g.met.D.Disk.follows_trans c.finish.new.db
    (rw b.same at c.in_ok-tally-in-Ok.ensures.went) f.left.indexed f.runs f.cause.later f.store f.packages f.has_rows f.whole)))

pub halt_of-requires : goal.halt_of-requires
halt_of-requires g c = record { halting = index_halts c.in-Err-finish.fault c.in-Err-finish.ensures.kinds }

pub returns-in-Err-finish-clause-went : goal.returns-in-Err-finish-clause-went
returns-in-Err-finish-clause-went g c =
    let rest = g.S.Shelf.rest c.open.new.self in
    let course = list_course c.args.most 1 (bytes_left rest) in
    let found = bytes_at (g.S.Shelf.paths c.args.shelf.now) (codes "-") in
    let b = c.begin-batch.ensures in
    let f = c.in-Err-finish.ensures in
    let fault = c.in-Err-finish.fault in
    rw c.halt_of.ensures
    (went_as g.D.Disk (once course) (import_list c.args.most found) (λ both. both)
    (λ both. let opened = c.in-Ok.ensures.opened both.1 in rw (opened_is found rest opened.0 opened.1) refl) (λ s t e. e)
    (went_once g.D.Disk g.E.Sink c.args.err.now c.import_all.new.err course (Err _)
    (list_unfinished g.D.Disk c.requires.ready b.goes b.order b.sealed b.none (λ both. both.0) g.met.D.Disk.follows_trans c.finish.new.db
    (rw b.same at c.in_ok-tally-in-Ok.ensures.went) f.left.indexed f.runs f.cause.later fault (err_stopped g.E.Sink c.args.err.now c.import_all.new.err fault)
    f.kinds f.full f.whole f.left.bad (λ is. f.cause.rose (cc)))))

pub returns-in-Err-clause-went : goal.returns-in-Err-clause-went
returns-in-Err-clause-went g c =
    went_as g.D.Disk (course_of_failure (ToErr (whole_step 0) (absent_line (codes "-"))))
    (import_list c.args.most (bytes_at (g.S.Shelf.paths c.args.shelf.now) (codes "-")))
    (λ both. both) (λ both. rw (c.in-Err.ensures.opened both.1).1 refl) (λ s t e. e)
    (ready_line g.D.Disk g.met.D.Disk.follows_refl c.requires.ready g.E.Sink c.put_failing.result (whole_step 0) c.put_failing.ensures)
