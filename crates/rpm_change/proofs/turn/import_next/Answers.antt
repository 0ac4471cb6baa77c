use Rattle.std.proofs.Common.{take, refl}
use Rattle.rpm_change.proofs.Vocabulary.{EndedOnErr, err_is, err_none, idle, bytes_left, line_went, list_head, none_went, place_fails, reading_went, state_in, turn}
use Rattle.rpm_change.proofs.Vocabulary.{turn_found, went_as, whole_step}
use Rattle.rpm_change.proofs.laws.Owing.{owing_none}
use Rattle.rpm_change.proofs.Turned.{of_list, stop_is}
use Rattle.rpm_change.proofs.turn.import_next.Goals as goal

-- a header stands in front

pub returns-in_ok-tally-in-Ok-Some-clause-went : goal.returns-in_ok-tally-in-Ok-Some-clause-went
returns-in_ok-tally-in-Ok-Some-clause-went g c =
    let said = rw c.in-Ok-Some.field-0-is at c.in-Ok-Some.ensures in
    went_as g.D.Disk (turn_found c.args.most c.args.place (take c.in-Ok-Some.size c.deref.result.now))
    (turn c.args.most c.args.place (list_head (bytes_left (g.S.Shelf.rest c.args.shelf.now)))) (λ both. both.0)
    (λ both. rw (said.answers both.1, c.deref.ensures.value) refl) (λ s t e. e) c.in_ok-tally-in-Ok-Some.ensures.went

pub returns-in_err-tally-in-Ok-Some-clause-went : goal.returns-in_err-tally-in-Ok-Some-clause-went
returns-in_err-tally-in-Ok-Some-clause-went g c =
    let said = rw c.in-Ok-Some.field-0-is at c.in-Ok-Some.ensures in
    rw (err_is c.from_residual.result c.from_residual.ensures)
    (went_as g.D.Disk (turn_found c.args.most c.args.place (take c.in-Ok-Some.size c.deref.result.now))
    (turn c.args.most c.args.place (list_head (bytes_left (g.S.Shelf.rest c.args.shelf.now)))) (λ both. both.0)
    (λ both. rw (said.answers both.1, c.deref.ensures.value) refl) (λ s t e. e) c.in_err-tally-in-Ok-Some.ensures.went)

-- the list is at its end

pub returns-in-Ok-None-clause-went : goal.returns-in-Ok-None-clause-went
returns-in-Ok-None-clause-went g c =
    let said = rw c.in-Ok-None.field-0-is at c.in-Ok-None.ensures in
    went_as g.D.Disk {E = EndedOnErr g.E.Sink c.args.err.now c.args.err.now} idle
    (turn c.args.most c.args.place (list_head (bytes_left (g.S.Shelf.rest c.args.shelf.now)))) (λ both. both) (λ both. rw (said.answers both.1).0 refl)
    (λ s t e. e) (none_went g.D.Disk g.met.D.Disk.follows_refl (owing_none g.D.Disk c.requires.gathering) _ _ c.requires.gathering.indexed
    (err_none g.E.Sink c.args.err.now (state_in g.D.Disk c.args.disk.now c.args.db.now)))

-- a fault of the list

pub returns-in-Some-clause-went : goal.returns-in-Some-clause-went
returns-in-Some-clause-went g c =
    reading_went g.D.Disk g.met.D.Disk.follows_refl (owing_none g.D.Disk c.requires.gathering) _ _ c.requires.gathering.indexed g.E.Sink c.args.err.now
    (turn c.args.most c.args.place (list_head (bytes_left (g.S.Shelf.rest c.args.shelf.now)))) c.in-Some.halt
    (stop_is c.in-Err.fault c.in-Some.halt c.in-Some.ensures).0

pub returns-in_ok-tally-in-None-clause-went : goal.returns-in_ok-tally-in-None-clause-went
returns-in_ok-tally-in-None-clause-went g c =
    let head = list_head (bytes_left (g.S.Shelf.rest c.args.shelf.now)) in
    went_as g.D.Disk (place_fails c.args.place c.list_text.result.now) (turn c.args.most c.args.place head) (λ both. both)
    (λ both. rw (of_list head c.in-Err.fault c.in-None.ensures (c.in-Err.ensures.answers both.1), c.list_text.ensures) refl) (λ s t e. e)
    (line_went g.D.Disk g.met.D.Disk.follows_refl (owing_none g.D.Disk c.requires.gathering) _ _ c.requires.gathering.indexed g.E.Sink _
    (whole_step 0) c.in_ok-tally-in-None.ensures)

pub returns-in_err-tally-in-None-clause-went : goal.returns-in_err-tally-in-None-clause-went
returns-in_err-tally-in-None-clause-went g c =
    let head = list_head (bytes_left (g.S.Shelf.rest c.args.shelf.now)) in
    rw (err_is c.from_residual-in_err-tally-in-None.result c.from_residual-in_err-tally-in-None.ensures)
    (went_as g.D.Disk (place_fails c.args.place c.list_text.result.now) (turn c.args.most c.args.place head) (λ both. both)
    (λ both. rw (of_list head c.in-Err.fault c.in-None.ensures (c.in-Err.ensures.answers both.1), c.list_text.ensures) refl) (λ s t e. e)
    (line_went g.D.Disk g.met.D.Disk.follows_refl (owing_none g.D.Disk c.requires.gathering) _ _ c.requires.gathering.indexed g.E.Sink _
    (whole_step 0) c.in_err-tally-in-None.ensures))
