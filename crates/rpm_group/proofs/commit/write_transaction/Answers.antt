use Rattle.std.proofs.Common.{inl, inr, IsTrue, refl, ◌+◌, sym, ap, subst, ◌∙◌, arith}
use Rattle.std.proofs.lemmas.Result.{on_ok_weaker}
use Rattle.std.proofs.lemmas.Bool.{cases_lt}
use Rattle.rpm_group.proofs.Vocabulary.{entries_of, Files, KeepsBehind, log_not_log, LogState, needed_units, runs_of, Units, without_log, with_entries}
use Rattle.rpm_group.proofs.Behinds.{entries_behind, none_behind, then_behind}
use Rattle.rpm_group.proofs.Orders.{keeps_then, transaction_logged}
use Rattle.rpm_group.proofs.Countings.{no_runs}
use Rattle.rpm_group.proofs.Closes.{applied_durable, mid_open, mid_done}
use Rattle.rpm_group.proofs.Stages.{StageLeaves, still_closed, unlogged_changed, stage_one, stage_two, stage_three, stage_four}
use Rattle.rpm_group.proofs.commit.write_transaction.Given.{Over}
use Rattle.rpm_group.proofs.commit.write_transaction.Goals.{After-apply_held, After-log_held, After-open_log}
use Rattle.rpm_group.proofs.commit.write_transaction.Goals as goal

-- what a crash leaves once the entries are logged, the log is open, and the entries are applied
log_leaves : (g : Over) (c : After-log_held g) → IsTrue g.D.Disk.tells → StageLeaves g.D.Disk c.args.held.now c.args.disk.now c.log_held.new.disk
log_leaves g c told =
    let D = g.D.Disk in
    let old = c.args.disk.now in
    let files : Files = D.files old in
    let held = c.args.held.now in
    let end = needed_units held in (
      stage_one D held files end old c.log_held.new.disk (c.requires.closed told) (c.requires.durable told) (c.log_held.ensures.images told),
      then_behind D told g.met.D.Disk.earlier end files.log old old c.log_held.new.disk 1 end (omega arith)
          (none_behind D told g.met.D.Disk.earlier end files.log old files refl (c.requires.durable told)) (c.log_held.ensures.images told),
    )

open_leaves : (g : Over) (c : After-open_log g) → IsTrue g.D.Disk.tells → StageLeaves g.D.Disk c.args.held.now c.args.disk.now c.log_held.new.disk
    → StageLeaves g.D.Disk c.args.held.now c.args.disk.now c.open_log.new.disk
open_leaves g c told so_far =
    let D = g.D.Disk in
    let old = c.args.disk.now in
    let first = c.log_held.new.disk in
    let end = needed_units c.args.held.now in
    let logged = c.in_ok-tail.ensures.logged told in (
      stage_two D c.args.held.now (D.files old) old first c.open_log.new.disk (D.files first) logged.0 so_far.0
          (unlogged_changed (D.files old) (D.files first) 1 end (c.in_ok-tail.ensures.changed told)) logged.1
          (c.open_log.ensures.images told logged.0 logged.2),
      then_behind D told g.met.D.Disk.earlier end (D.files old).log old first c.open_log.new.disk 0 1 (omega arith) so_far.1
          (c.open_log.ensures.commit_record told),
    )

apply_leaves : (g : Over) (c : After-apply_held g) → IsTrue g.D.Disk.tells → StageLeaves g.D.Disk c.args.held.now c.args.disk.now c.open_log.new.disk
    → StageLeaves g.D.Disk c.args.held.now c.args.disk.now c.apply_held.new.disk
apply_leaves g c told so_far =
    let D = g.D.Disk in
    let old = c.args.disk.now in
    let first : Files = D.files c.log_held.new.disk in
    let second = c.open_log.new.disk in
    let end = needed_units c.args.held.now in
    let logged = c.in_ok-tail.ensures.logged told in
    let opened = c.in_ok-open_log.ensures.open told logged.0 logged.2 in (
      stage_three D c.args.held.now (D.files old) old second c.apply_held.new.disk (D.files second) logged.0 so_far.0
          (c.open_log.ensures.same told ∙ unlogged_changed (D.files old) first 1 end (c.in_ok-tail.ensures.changed told)) logged.1 opened
          (c.in_ok-open_log.ensures.durable told) (c.apply_held.ensures.images told logged.0 logged.1),
      entries_behind D told g.met.D.Disk.earlier end (D.files old).log old second c.apply_held.new.disk logged.0
          (log_not_log (D.files second).log logged.0 opened) so_far.1 (c.apply_held.ensures.images told logged.0 logged.1),
    )

pub returns-in_err-tail-clause-images : goal.returns-in_err-tail-clause-images
returns-in_err-tail-clause-images g c = λ told. (log_leaves g (goal.at.returns-in_err-tail-clause-images g c).After-log_held told).0

pub returns-in_err-tail-clause-behind : goal.returns-in_err-tail-clause-behind
returns-in_err-tail-clause-behind g c = λ told. (log_leaves g (goal.at.returns-in_err-tail-clause-behind g c).After-log_held told).1

pub returns-in_err-open_log-clause-images : goal.returns-in_err-open_log-clause-images
returns-in_err-open_log-clause-images g c = λ told.
    let at = goal.at.returns-in_err-open_log-clause-images g c in
    (open_leaves g at.After-open_log told (log_leaves g at.After-log_held told)).0

pub returns-in_err-open_log-clause-behind : goal.returns-in_err-open_log-clause-behind
returns-in_err-open_log-clause-behind g c = λ told.
    let at = goal.at.returns-in_err-open_log-clause-behind g c in
    (open_leaves g at.After-open_log told (log_leaves g at.After-log_held told)).1

pub returns-in_err-apply_held-clause-images : goal.returns-in_err-apply_held-clause-images
returns-in_err-apply_held-clause-images g c = λ told.
    let at = goal.at.returns-in_err-apply_held-clause-images g c in
    (apply_leaves g at.After-apply_held told (open_leaves g at.After-open_log told (log_leaves g at.After-log_held told))).0

pub returns-in_err-apply_held-clause-behind : goal.returns-in_err-apply_held-clause-behind
returns-in_err-apply_held-clause-behind g c = λ told.
    let at = goal.at.returns-in_err-apply_held-clause-behind g c in
    (apply_leaves g at.After-apply_held told (open_leaves g at.After-open_log told (log_leaves g at.After-log_held told))).1

pub returns-clause-images : goal.returns-clause-images
returns-clause-images g c = λ told.
    let D = g.D.Disk in
    let third = c.apply_held.new.disk in
    let files : Files = D.files c.args.disk.now in
    let held = c.args.held.now in
    let at = goal.at.returns-clause-images g c in
    stage_four D held files c.args.disk.now third c.close_log.new.disk (D.files c.open_log.new.disk) (D.files third)
    (apply_leaves g at.After-apply_held told (open_leaves g at.After-open_log told (log_leaves g at.After-log_held told))).0
    (c.open_log.ensures.same told
    ∙ unlogged_changed files (D.files c.log_held.new.disk) 1 (needed_units held) (c.in_ok-tail.ensures.changed told))
    (c.in_ok-apply_held.ensures.written told) (c.close_log.ensures.images told)

pub returns-clause-behind : goal.returns-clause-behind
returns-clause-behind g c = λ told.
    let D = g.D.Disk in
    let old = c.args.disk.now in
    let files : Files = D.files old in
    let at = goal.at.returns-clause-behind g c in
    then_behind D told g.met.D.Disk.earlier (needed_units c.args.held.now) files.log old c.apply_held.new.disk c.close_log.new.disk 0 1 (omega arith)
    (apply_leaves g at.After-apply_held told (open_leaves g at.After-open_log told (log_leaves g at.After-log_held told))).1
    (c.close_log.ensures.commit_record told)

pub open_log-requires-clause-some : goal.open_log-requires-clause-some
open_log-requires-clause-some g c =
    let held = c.args.held.now in
    elim (cases_lt 0 (runs_of held.pkg + runs_of held.idx)) [
      | inl some ↦ omega (arith, some, c.in_ok-tail.ensures.entries)
      | inr none ↦
          absurd (omega (
            arith,
            c.requires.some,
            no_runs held.pkg.table.items held.pkg.end (omega (arith, none)),
            no_runs held.idx.table.items
                held.idx.end (omega (arith, none)),
          ))
    ]

pub open_log-requires-clause-closed : goal.open_log-requires-clause-closed
open_log-requires-clause-closed g c = λ told.
    let D = g.D.Disk in
    still_closed (D.files c.args.disk.now) (D.files c.log_held.new.disk) 1 (needed_units c.args.held.now) (omega arith) (c.requires.closed told)
    (c.in_ok-tail.ensures.changed told)

pub close_log-requires-clause-durable : goal.close_log-requires-clause-durable
close_log-requires-clause-durable g c = λ told.
    let D = g.D.Disk in
    let second = c.open_log.new.disk in
    let third = c.apply_held.new.disk in
    let logged = c.in_ok-tail.ensures.logged told in
    let opened = c.in_ok-open_log.ensures.open told logged.0 logged.2 in
    applied_durable D second third (D.files second) (D.files third) logged.0 (log_not_log (D.files second).log logged.0 opened)
    (c.in_ok-apply_held.ensures.written told ∙ sym (logged.1.whole (D.files second)))
    (c.in_ok-open_log.ensures.durable told) (c.apply_held.ensures.images told logged.0 logged.1)
    (λ image left. g.met.D.Disk.earlier third (D.moment second) (D.moment third) image told c.apply_held.ensures.reads.log.later (omega arith) left)
    (c.in_ok-apply_held.ensures.pkg told) (c.in_ok-apply_held.ensures.idx told)

pub close_log-requires-clause-done : goal.close_log-requires-clause-done
close_log-requires-clause-done g c = λ told.
    let D = g.D.Disk in
    let second : Files = D.files c.open_log.new.disk in
    let third : Files = D.files c.apply_held.new.disk in
    let logged = c.in_ok-tail.ensures.logged told in
    let opened = c.in_ok-open_log.ensures.open told logged.0 logged.2 in
    let written = c.in_ok-apply_held.ensures.written told ∙ sym (logged.1.whole second) in
    ap (λ (s : LogState). with_entries (entries_of s) (without_log third)) (mid_open second third logged.0 opened written)
    ∙ mid_done second third logged.0 opened written

pub returns-clause-logged : goal.returns-clause-logged
returns-clause-logged g c = on_ok_weaker c.close_log.result (λ behind told.
    let D = g.D.Disk in
    let first : Files = D.files c.log_held.new.disk in
    let third : Files = D.files c.apply_held.new.disk in
    let last : Files = D.files c.close_log.new.disk in
    let logged = c.in_ok-tail.ensures.logged told in
    let applied : KeepsBehind 1 first.log third.log = subst (λ (us : Units). KeepsBehind 1 first.log us)
    (sym (ap (λ (f : Files). f.log) (c.in_ok-apply_held.ensures.written told))) (c.in_ok-open_log.ensures.behind told) in
    transaction_logged c.args.held.now logged.0 c.in_ok-tail.tail.at first.log last.log logged.1 logged.2.placed logged.2.heads c.in_ok-tail.ensures.at
    (keeps_then 1 first.log third.log last.log applied (behind told))) c.close_log.ensures.behind
