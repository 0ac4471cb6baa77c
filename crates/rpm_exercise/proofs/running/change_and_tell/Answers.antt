use Rattle.std.proofs.Common.{true, [], ap, ◌∙◌}
use Rattle.std.specs.Prelude.{IsTrue}
use Rattle.rpm_exercise.proofs.Vocabulary.{apply_all, changes, err_is, exercise, State, state_in, summary, told_all, told_none, told_part, whole_step}
use Rattle.rpm_exercise.proofs.Halts.{asking_stop, changes_kind}
use Rattle.rpm_exercise.proofs.Told.{read_done, read_stopped}
use Rattle.rpm_exercise.proofs.running.change_and_tell.Goals as goal

pub returns-in_err-tally-clause-went : goal.returns-in_err-tally-clause-went
returns-in_err-tally-clause-went g c =
    let s = state_in g.D.Disk c.args.disk.now c.args.db.now in
    let made = c.in_err-tally.ensures in
    rw (err_is c.from_residual.result c.from_residual.ensures) (told_none g.D.Disk g.O.Sink (changes c.args.n s) (whole_step 0)
    (summary (apply_all (changes c.args.n s) s).packages) c.in_err-tally.field-0.0 made.course made.kinds.1 made.kinds.2 c.args.out.now)

pub returns-in_err-tally-clause-stop : goal.returns-in_err-tally-clause-stop
returns-in_err-tally-clause-stop g c =
    let went = c.in_err-tally.ensures in
    rw (err_is c.from_residual.result c.from_residual.ensures)
    (record { kind = changes_kind c.in_err-tally.field-0.0 went.kinds; spent = went.spent; indexed = went.course.left.indexed })

pub returns-in_err-text-clause-went : goal.returns-in_err-text-clause-went
returns-in_err-text-clause-went g c =
    let s = state_in g.D.Disk c.args.disk.now c.args.db.now in
    let made = c.in_ok-tally.ensures.course in
    rw (err_is c.from_residual-in_err-text.result c.from_residual-in_err-text.ensures) (read_stopped g.D.Disk g.met.D.Disk.follows_trans made g.O.Sink
    c.args.out.now (exercise c.args.n s) (λ told is. (made.left.carried.index told (c.requires.current.index told)).rows_are) c.in_err-text.ensures.asks)

pub returns-in_err-text-clause-stop : goal.returns-in_err-text-clause-stop
returns-in_err-text-clause-stop g c =
    rw (err_is c.from_residual-in_err-text.result c.from_residual-in_err-text.ensures)
    (asking_stop c.change_all.new.db c.in_err-text.field-0.0 c.in_ok-tally.ensures.course.left.indexed c.in_err-text.ensures.asks.kinds)

pub returns-in-Ok-clause-went : goal.returns-in-Ok-clause-went
returns-in-Ok-clause-went g c =
    let s = state_in g.D.Disk c.args.disk.now c.args.db.now in
    let made = c.in_ok-tally.ensures.course in
    let said = c.in_ok-text.ensures in
    let text = λ (told : IsTrue g.D.Disk.tells). c.deref.ensures.value
    ∙ said.told told (λ is. (made.left.carried.index told (c.requires.current.index told)).rows_are)
    ∙ ap (λ (v : State). summary v.packages) (made.ended told true true [] []).state_is in
    told_all g.D.Disk g.O.Sink (changes c.args.n s) (whole_step 0) (summary (apply_all (changes c.args.n s) s).packages)
    (read_done g.D.Disk g.met.D.Disk.follows_trans made said.asks) c.args.out.now c.put_and_flush.new.sink
    (λ told. rw (c.clear.ensures.inner, text told) at c.in-Ok.ensures.writes.ok)

pub returns-clause-went : goal.returns-clause-went
returns-clause-went g c =
    let s = state_in g.D.Disk c.args.disk.now c.args.db.now in
    let made = c.in_ok-tally.ensures.course in
    let said = c.in_ok-text.ensures in
    let text = λ (told : IsTrue g.D.Disk.tells). c.deref.ensures.value
    ∙ said.told told (λ is. (made.left.carried.index told (c.requires.current.index told)).rows_are)
    ∙ ap (λ (v : State). summary v.packages) (made.ended told true true [] []).state_is in
    told_part g.D.Disk g.O.Sink (changes c.args.n s) (whole_step 0) (summary (apply_all (changes c.args.n s) s).packages)
    (read_done g.D.Disk g.met.D.Disk.follows_trans made said.asks) c.args.out.now c.put_and_flush.new.sink
    (λ told. rw (c.clear.ensures.inner, text told) at c.in-Err.ensures.writes.err)
