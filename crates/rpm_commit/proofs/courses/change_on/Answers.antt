use Rattle.std.proofs.Common.{◌≡◌, [], map, true, false, Some, None, Err, refl, sym, ap, subst}
use Rattle.std.specs.Prelude.{IsTrue, codes}
use Rattle.std.proofs.lemmas.Result.{err_from_is_err_and}
use Rattle.rpm_commit.proofs.Vocabulary.{add_files, bytes_at, changes_index, ended_as, erase, exercise_ended, Halted, import_list, inner, is_anew}
use Rattle.rpm_commit.proofs.Vocabulary.{IsOfErasing, IsOfImporting, IsOfPutting, IsOfRebuilding, IsStop, max_headers, needs_none, Outputs, reads_shelf}
use Rattle.rpm_commit.proofs.Vocabulary.{rebuild, replace, runs_none, SameLog, shown_outputs, task_course, task_parts, Through}
use Rattle.rpm_effects.specs.declared.tally.Halt.TheVariants as halt
use Rattle.rpm_commit.proofs.Coursed.{unopened_works, made_works, went_works, anew_works, exercise_works}
use Rattle.rpm_commit.proofs.Halting.{course_empty, ended_back, exercise_back, idle_hand, never_cause, never_of, never_of_exercise, streams_by}
use Rattle.rpm_commit.proofs.Halting.{unopened_streams}
use Rattle.rpm_commit.proofs.laws.Unmade.{through_none}
use Rattle.rpm_commit.proofs.courses.change_on.Goals as goal

-- ---- not opened

pub returns-in_err-db-clause-works : goal.returns-in_err-db-clause-works
returns-in_err-db-clause-works g c =
    let t = task_parts c.args.task.now in
    let said = c.in_err-db.ensures in
    let p = err_from_is_err_and c.from_residual.result c.from_residual.ensures.1 in
    rw (p.1, p.2) (unopened_works g.D.Disk (reads_shelf t) (IsTrue g.S.Shelf.tells) c.args.disk.now c.open_to_change.new.disk (is_anew t)
    (changes_index t) (needs_none t) (task_course (g.S.Shelf.paths c.args.shelf.now) c.args.now t)
    (shown_outputs g.O.Sink g.E.Sink c.args.out.now c.args.err.now) c.in_err-db.field-0.0 said.found said.fault said.runs
    (record { later = said.disk.later; rose = λ is. said.disk.rose (ap Err is) }))

pub returns-in_err-db-clause-streams : goal.returns-in_err-db-clause-streams
returns-in_err-db-clause-streams g c =
    let p = err_from_is_err_and c.from_residual.result c.from_residual.ensures.1 in
    rw (p.1, p.2) (unopened_streams g.S.Shelf g.O.Sink g.E.Sink (reads_shelf (task_parts c.args.task.now)) c.in_err-db.field-0.0 c.args.shelf.now
    c.args.out.now c.args.err.now c.in_err-db.ensures.fault (g.met.O.Sink.follows_refl (inner c.args.out.now))
    (g.met.E.Sink.follows_refl (inner c.args.err.now)))

-- ---- opened

pub returns-in-Make-clause-works : goal.returns-in-Make-clause-works
returns-in-Make-clause-works g c =
    let opened = c.in_ok-db.ensures in
    rw c.in-Make.is (made_works g.D.Disk g.met.D.Disk.follows_trans false (IsTrue g.S.Shelf.tells) c.args.disk.now c.open_to_change.new.disk c.in_ok-db.db
    opened.found opened.opens opened.runs opened.disk.later (shown_outputs g.O.Sink g.E.Sink c.args.out.now c.args.err.now)
    (runs_none g.D.Disk g.met.D.Disk.follows_refl SameLog (λ f. refl) c.open_to_change.new.disk))

pub returns-in-Add-clause-works : goal.returns-in-Add-clause-works
returns-in-Add-clause-works g c =
    let opened = c.in_ok-db.ensures in
    let left = c.add_files.new in
    let went = c.add_files.ensures.went in
    let out = c.args.out.now in
    rw (c.in-Add.is, c.ended.ensures, ← c.as_slice-paths.ensures.value) (went_works g.D.Disk g.met.D.Disk.follows_trans true (IsTrue g.S.Shelf.tells)
    c.args.disk.now
    c.open_to_change.new.disk c.in_ok-db.db opened.found opened.opens opened.runs opened.disk.later
    (λ s. add_files (g.S.Shelf.paths c.args.shelf.now) c.args.now s (map (λ path. path.now) c.as_slice-paths.result.now))
    left.disk left.db (shown_outputs g.O.Sink g.E.Sink out c.args.err.now) (shown_outputs g.O.Sink g.E.Sink out left.err)
    (λ t. (t.0, t.1 refl)) c.add_files.result went
    (λ t. went.ended (t.0, t.1 refl) g.O.Sink.tells (g.O.Sink.taken (inner out))))

pub returns-in-Replace-clause-works : goal.returns-in-Replace-clause-works
returns-in-Replace-clause-works g c =
    let opened = c.in_ok-db.ensures in
    let left = c.replace_package.new in
    let went = c.replace_package.ensures.went in
    let out = c.args.out.now in
    rw (c.in-Replace.is, c.ended-in-Replace.ensures) (went_works g.D.Disk g.met.D.Disk.follows_trans true (IsTrue g.S.Shelf.tells) c.args.disk.now
    c.open_to_change.new.disk c.in_ok-db.db opened.found opened.opens opened.runs opened.disk.later
    (λ s. replace (g.S.Shelf.paths c.args.shelf.now) c.args.now s c.in-Replace.number c.in-Replace.path.now)
    left.disk left.db (shown_outputs g.O.Sink g.E.Sink out c.args.err.now) (shown_outputs g.O.Sink g.E.Sink out left.err)
    (λ t. (t.0, t.1 refl)) c.replace_package.result went
    (λ t. went.ended (t.0, t.1 refl) g.O.Sink.tells (g.O.Sink.taken (inner out))))

pub returns-in-Erase-clause-works : goal.returns-in-Erase-clause-works
returns-in-Erase-clause-works g c =
    let opened = c.in_ok-db.ensures in
    let left = c.erase_numbers.new in
    let went = c.erase_numbers.ensures.went in
    let out = c.args.out.now in
    rw (c.in-Erase.is, c.ended-in-Erase.ensures, ← c.as_slice-numbers.ensures.value) (went_works g.D.Disk g.met.D.Disk.follows_trans false (IsTrue
    g.S.Shelf.tells) c.args.disk.now
    c.open_to_change.new.disk c.in_ok-db.db opened.found opened.opens opened.runs opened.disk.later
    (λ s. erase s c.as_slice-numbers.result.now)
    left.disk left.db (shown_outputs g.O.Sink g.E.Sink out c.args.err.now) (shown_outputs g.O.Sink g.E.Sink out left.err) (λ t. t.0) c.erase_numbers.result went
    (λ t. went.ended t.0 g.O.Sink.tells (g.O.Sink.taken (inner out))))

pub returns-in-Import-clause-works : goal.returns-in-Import-clause-works
returns-in-Import-clause-works g c =
    let opened = c.in_ok-db.ensures in
    let left = c.import_list.new in
    let went = c.import_list.ensures.went in
    let out = c.args.out.now in
    rw (c.in-Import.is, c.ended-in-Import.ensures) (went_works g.D.Disk g.met.D.Disk.follows_trans true (IsTrue g.S.Shelf.tells) c.args.disk.now
    c.open_to_change.new.disk c.in_ok-db.db opened.found opened.opens opened.runs opened.disk.later
    (λ s. import_list max_headers (bytes_at (g.S.Shelf.paths c.args.shelf.now) (codes "-")))
    left.disk left.db (shown_outputs g.O.Sink g.E.Sink out c.args.err.now) (shown_outputs g.O.Sink g.E.Sink out left.err)
    (λ t. (t.0, t.1 refl)) c.import_list.result went
    (λ t. went.ended (t.0, t.1 refl) g.O.Sink.tells (g.O.Sink.taken (inner out))))

pub returns-in-Rebuild-clause-works : goal.returns-in-Rebuild-clause-works
returns-in-Rebuild-clause-works g c =
    let opened = c.in_ok-db.ensures in
    let left = c.rebuild.new in
    let said = c.rebuild.ensures in
    let err = c.args.err.now in
    let before = shown_outputs g.O.Sink g.E.Sink c.args.out.now err in
    let now = shown_outputs g.O.Sink g.E.Sink left.out err in
    let r = c.rebuild.result in
    rw (c.in-Rebuild.is, c.ended-in-Rebuild.ensures) (anew_works g.D.Disk g.met.D.Disk.follows_trans false (IsTrue g.S.Shelf.tells) c.args.disk.now
    c.open_to_change.new.disk c.in_ok-db.db opened.found opened.opens opened.runs opened.disk.later (λ s. rebuild s) left.disk left.db before now false r
    (λ told. course_empty (g.D.Disk.files c.args.disk.now) r)
    (λ t. said.ended t.0 g.E.Sink.tells (g.E.Sink.taken (inner err))) said.limits said.current said.stores said.reach said.runs said.disk)

pub returns-clause-works : goal.returns-clause-works
returns-clause-works g c =
    let opened = c.in_ok-db.ensures in
    let left = c.exercise.new in
    let said = c.exercise.ensures in
    let err = c.args.err.now in
    let before = shown_outputs g.O.Sink g.E.Sink c.args.out.now err in
    rw (c.in-Exercise.is, c.exercise_ended.ensures) (exercise_works g.D.Disk g.met.D.Disk.follows_trans false (IsTrue g.S.Shelf.tells) c.args.disk.now
    c.open_to_change.new.disk c.in_ok-db.db opened.found opened.opens opened.runs opened.disk.later c.in-Exercise.headers left.disk left.db before
    (shown_outputs g.O.Sink g.E.Sink left.out err) c.exercise.result said.empty
    (λ held is. subst (λ (x : Outputs). Through [] before x) (ap (λ o. shown_outputs g.O.Sink g.E.Sink o err) (sym (said.refused held is).2))
    (through_none before))
    (λ t. said.ended t.0 g.E.Sink.tells (g.E.Sink.taken (inner err))) said.limits said.current said.runs said.disk)

-- ---- the shelf and the sinks

pub returns-in-Add-clause-streams : goal.returns-in-Add-clause-streams
returns-in-Add-clause-streams g c =
    let r = c.add_files.result in
    let said = c.add_files.ensures in
    let out = c.args.out.now in
    rw (c.in-Add.is, c.ended.ensures) (streams_by g.S.Shelf g.O.Sink g.E.Sink (ended_as r) (λ h. r ≡ Err h) (ended_back r) true c.args.shelf.now
    c.add_files.new.shelf out out c.args.err.now c.add_files.new.err (λ is. absurd cc) said.shelf.paths said.shelf.cause
    (idle_hand g.O.Sink out (g.met.O.Sink.follows_refl (inner out)) (never_of (IsOfPutting None) r halt.OutFault said.kinds (λ x. x))) said.err)

pub returns-in-Replace-clause-streams : goal.returns-in-Replace-clause-streams
returns-in-Replace-clause-streams g c =
    let r = c.replace_package.result in
    let said = c.replace_package.ensures in
    let out = c.args.out.now in
    rw (c.in-Replace.is, c.ended-in-Replace.ensures) (streams_by g.S.Shelf g.O.Sink g.E.Sink (ended_as r) (λ h. r ≡ Err h) (ended_back r) true
    c.args.shelf.now c.replace_package.new.shelf out out c.args.err.now c.replace_package.new.err (λ is. absurd cc) said.shelf.paths said.shelf.cause
    (idle_hand g.O.Sink out (g.met.O.Sink.follows_refl (inner out))
    (never_of (IsOfPutting (Some c.in-Replace.number)) r halt.OutFault said.kinds (λ x. x))) said.err)

pub returns-in-Erase-clause-streams : goal.returns-in-Erase-clause-streams
returns-in-Erase-clause-streams g c =
    let r = c.erase_numbers.result in
    let said = c.erase_numbers.ensures in
    let out = c.args.out.now in
    let at = c.args.shelf.now in
    rw (c.in-Erase.is, c.ended-in-Erase.ensures) (streams_by g.S.Shelf g.O.Sink g.E.Sink (ended_as r) (λ h. r ≡ Err h) (ended_back r) false at at out out
    c.args.err.now c.erase_numbers.new.err (λ is. refl) (λ told. refl)
    (never_cause (g.S.Shelf.faults at) (never_of IsOfErasing r halt.ShelfFault said.kinds (λ x. x)))
    (idle_hand g.O.Sink out (g.met.O.Sink.follows_refl (inner out)) (never_of IsOfErasing r halt.OutFault said.kinds (λ x. x))) said.err)

pub returns-in-Import-clause-streams : goal.returns-in-Import-clause-streams
returns-in-Import-clause-streams g c =
    let r = c.import_list.result in
    let said = c.import_list.ensures in
    let out = c.args.out.now in
    rw (c.in-Import.is, c.ended-in-Import.ensures) (streams_by g.S.Shelf g.O.Sink g.E.Sink (ended_as r) (λ h. r ≡ Err h) (ended_back r) true
    c.args.shelf.now c.import_list.new.shelf out out c.args.err.now c.import_list.new.err (λ is. absurd cc) said.shelf.paths said.shelf.cause
    (idle_hand g.O.Sink out (g.met.O.Sink.follows_refl (inner out)) (never_of IsOfImporting r halt.OutFault said.kinds (λ x. x))) said.err)

pub returns-in-Rebuild-clause-streams : goal.returns-in-Rebuild-clause-streams
returns-in-Rebuild-clause-streams g c =
    let r = c.rebuild.result in
    let said = c.rebuild.ensures in
    let at = c.args.shelf.now in
    let err = c.args.err.now in
    rw (c.in-Rebuild.is, c.ended-in-Rebuild.ensures) (streams_by g.S.Shelf g.O.Sink g.E.Sink (ended_as r) (λ h. r ≡ Err h) (ended_back r) false at at
    c.args.out.now c.rebuild.new.out err err (λ is. refl) (λ told. refl)
    (never_cause (g.S.Shelf.faults at) (never_of IsOfRebuilding r halt.ShelfFault said.kinds (λ x. x))) said.out
    (idle_hand g.E.Sink err (g.met.E.Sink.follows_refl (inner err)) (never_of IsOfRebuilding r halt.ErrFault said.kinds (λ x. x))))

pub returns-clause-streams : goal.returns-clause-streams
returns-clause-streams g c =
    let r = c.exercise.result in
    let said = c.exercise.ensures in
    let at = c.args.shelf.now in
    let err = c.args.err.now in
    let Of = IsStop c.exercise.new.db in
    rw (c.in-Exercise.is, c.exercise_ended.ensures) (streams_by g.S.Shelf g.O.Sink g.E.Sink (exercise_ended r) (λ h. r ≡ Err (Halted h)) (exercise_back r)
    false at at c.args.out.now c.exercise.new.out err err (λ is. refl) (λ told. refl)
    (never_cause (g.S.Shelf.faults at) (never_of_exercise Of r halt.ShelfFault said.stop (λ stop. stop.kind))) said.out
    (idle_hand g.E.Sink err (g.met.E.Sink.follows_refl (inner err)) (never_of_exercise Of r halt.ErrFault said.stop (λ stop. stop.kind))))
