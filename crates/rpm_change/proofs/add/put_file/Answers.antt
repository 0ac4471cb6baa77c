use Rattle.std.proofs.Common.{refl, sym}
use Rattle.rpm_change.proofs.Vocabulary.{absent_line, as_installed, bytes_at, change_at, course_of_change, course_of_failure, bytes_left, line_went, package_header, put_file, put_found}
use Rattle.rpm_change.proofs.Vocabulary.{reading_went, refused_line, ToErr, took, went_as, whole_step}
use Rattle.rpm_change.proofs.Filed.{opened_is, own_fault}
use Rattle.rpm_change.proofs.laws.Owing.{owing_none}
use Rattle.rpm_change.proofs.Stops.{stop_kind}
use Rattle.rpm_change.proofs.add.put_file.Goals as goal

pub returns-in-Ok-read_installed-clause-went : goal.returns-in-Ok-read_installed-clause-went
returns-in-Ok-read_installed-clause-went g c = λ j.
    let paths = g.S.Shelf.paths c.args.shelf.now in
    let path = c.args.path.now in
    went_as g.D.Disk (course_of_change (change_at c.args.how.number c.deref.result.now)) (put_found c.args.how j path (bytes_at paths path)) (λ both. both.0)
    (λ both. let opened = c.in-Ok.ensures.opened both.1 in
    rw (opened_is (bytes_at paths path) _ opened.0 opened.1, c.in-Ok-read_installed.ensures.gives both.1, c.deref.ensures.value) refl)
    (λ s t e. λ ot o. e ot g.E.Sink.tells o (took g.E.Sink c.args.err.now)) c.put_within.ensures.went

pub returns-in-Some-clause-went : goal.returns-in-Some-clause-went
returns-in-Some-clause-went g c = λ j.
    reading_went g.D.Disk g.met.D.Disk.follows_refl (owing_none g.D.Disk c.requires.gathering) _ _ c.requires.gathering.indexed g.E.Sink
    c.args.err.now
    (put_file c.args.how (g.S.Shelf.paths c.args.shelf.now) j c.args.path.now) c.in-Some.halt (stop_kind _ c.in-Some.halt (sym c.in-Some.ensures))

pub returns-in-None-clause-went : goal.returns-in-None-clause-went
returns-in-None-clause-went g c = λ j.
    let paths = g.S.Shelf.paths c.args.shelf.now in
    let path = c.args.path.now in
    let rest = g.S.Shelf.rest c.open.new.self in
    let fault = own_fault (as_installed c.args.how.moment (package_header (bytes_left rest))) c.in-Err-read_installed.fault (sym c.in-None.ensures) in
    went_as g.D.Disk (course_of_failure (ToErr (whole_step j) (refused_line c.as_bytes.result.now c.in-Err-read_installed.fault)))
    (put_found c.args.how j path (bytes_at paths path))
    (λ both. both) (λ both. let opened = c.in-Ok.ensures.opened both.1 in
    rw (opened_is (bytes_at paths path) rest opened.0 opened.1, fault (c.in-Err-read_installed.ensures.gives both.1), c.as_bytes.ensures.value) refl)
    (λ s t e. e) (line_went g.D.Disk g.met.D.Disk.follows_refl (owing_none g.D.Disk c.requires.gathering) _ _ c.requires.gathering.indexed g.E.Sink
    c.put_refused.result (whole_step j) c.put_refused.ensures)

pub returns-in-Err-clause-went : goal.returns-in-Err-clause-went
returns-in-Err-clause-went g c = λ j.
    went_as g.D.Disk (course_of_failure (ToErr (whole_step j) (absent_line c.as_bytes-in-Err.result.now)))
    (put_found c.args.how j c.args.path.now (bytes_at (g.S.Shelf.paths c.args.shelf.now) c.args.path.now)) (λ both. both)
    (λ both. rw ((c.in-Err.ensures.opened both.1).1, c.as_bytes-in-Err.ensures.value) refl) (λ s t e. e)
    (line_went g.D.Disk g.met.D.Disk.follows_refl (owing_none g.D.Disk c.requires.gathering) _ _ c.requires.gathering.indexed g.E.Sink
    c.put_absent.result (whole_step j) c.put_absent.ensures)
