use Rattle.std.proofs.Common.{◌≡◌, IsTrue, length, refl, sym, ap, subst, ◌∙◌, arith}
use Rattle.rpm_outside.specs.declared.disk.Disk as disk
use Rattle.rpm_group.proofs.Vocabulary.{CrashLeavesOnly, entries_of, Files, heads_behind, KeepsBehind, leaves_then, leaves_weaker, log_not_log, log_state}
use Rattle.rpm_group.proofs.Vocabulary.{LogState, NotLog, reopened_files, ReopensAs, without_log, WasWithin, with_entries}
use Rattle.rpm_group.proofs.Behinds.{entries_behind, none_behind, then_behind}
use Rattle.rpm_group.proofs.Closes.{mid_log, mid_open, mid_done, mid_stands, written_leaves, open_as}
use Rattle.rpm_group.proofs.recovery.finish.Given.{Over}
use Rattle.rpm_group.proofs.recovery.finish.Goals.{After-apply_entries, In-Ok}
use Rattle.rpm_group.proofs.recovery.finish.Goals as goal

-- the entries of the log are written
entries_written : (g : Over) (c : In-Ok g) → let D = g.D.Disk in let files : Files = D.files c.args.disk.now in IsTrue D.tells
    → D.files c.apply_entries.new.disk ≡ with_entries (entries_of (log_state files.log)) files
entries_written g c told = c.in-Ok.ensures.written told
    ∙ ap (λ (s : LogState). with_entries (entries_of s) (g.D.Disk.files c.args.disk.now)) (sym (c.requires.state told))

-- and the files are those that the log says
written_stands : (g : Over) (c : In-Ok g) → IsTrue g.D.Disk.tells
    → without_log (g.D.Disk.files c.apply_entries.new.disk) ≡ reopened_files (g.D.Disk.files c.args.disk.now)
written_stands g c told =
    let files : Files = g.D.Disk.files c.args.disk.now in
    mid_stands files (g.D.Disk.files c.apply_entries.new.disk) (entries_of (log_state files.log)) (c.requires.open told) (entries_written g c told)

entries_leave : (g : Over) (c : After-apply_entries g) → IsTrue g.D.Disk.tells
    → CrashLeavesOnly g.D.Disk c.args.disk.now c.apply_entries.new.disk (ReopensAs (reopened_files (g.D.Disk.files c.args.disk.now)))
entries_leave g c told =
    let D = g.D.Disk in
    let old = c.args.disk.now in
    let mid = c.apply_entries.new.disk in
    written_leaves D old mid (D.files old) (entries_of (log_state (D.files old).log)) (c.requires.open told) (c.requires.durable told)
    (subst (λ (s : LogState). CrashLeavesOnly D old mid (WasWithin (entries_of s) (D.left_since old (D.moment old)))) (sym (c.requires.state told))
    (c.apply_entries.ensures.images told))

-- the entries of an open log write the two files alone
entries_leave_behind : (g : Over) (c : After-apply_entries g) → IsTrue g.D.Disk.tells
    → CrashLeavesOnly g.D.Disk c.args.disk.now c.apply_entries.new.disk (λ (image : Files). KeepsBehind 1 (g.D.Disk.files c.args.disk.now).log image.log)
entries_leave_behind g c told =
    let D = g.D.Disk in
    let earlier = g.met.D.Disk.earlier in
    let old = c.args.disk.now in
    let files = D.files old in
    entries_behind D told earlier 1 files.log old old c.apply_entries.new.disk (entries_of (heads_behind c.args.commit_record files.log))
    (subst (λ (s : LogState). NotLog (entries_of s)) (c.requires.state told)
    (log_not_log files.log (entries_of (log_state files.log)) (c.requires.open told)))
    (none_behind D told earlier 1 files.log old files refl (c.requires.durable told)) (c.apply_entries.ensures.images told)

pub returns-in_default-clause-images : goal.returns-in_default-clause-images
returns-in_default-clause-images g c = entries_leave g (goal.at.returns-in_default-clause-images g c).After-apply_entries

pub close_log-requires-clause-some : goal.close_log-requires-clause-some
close_log-requires-clause-some g c = λ told.
    let files = g.D.Disk.files c.args.disk.now in
    let written = entries_written g (goal.at.close_log-requires-clause-some g c).In-Ok told in
    omega (arith, c.requires.last told, ap (λ us. length us) (mid_log files _ (entries_of (log_state files.log)) (c.requires.open told) written))

pub close_log-requires-clause-open : goal.close_log-requires-clause-open
close_log-requires-clause-open g c = λ told.
    let files = g.D.Disk.files c.args.disk.now in
    let mid = g.D.Disk.files c.apply_entries.new.disk in
    let written = entries_written g (goal.at.close_log-requires-clause-open g c).In-Ok told in
    open_as (log_state mid.log) (entries_of (log_state files.log))
    (mid_open files mid (entries_of (log_state files.log)) (c.requires.open told) written)

pub close_log-requires-clause-done : goal.close_log-requires-clause-done
close_log-requires-clause-done g c = λ told.
    let files = g.D.Disk.files c.args.disk.now in
    let mid = g.D.Disk.files c.apply_entries.new.disk in
    let entries = entries_of (log_state files.log) in
    let written = entries_written g (goal.at.close_log-requires-clause-done g c).In-Ok told in
    ap (λ (s : LogState). with_entries (entries_of s) (without_log mid)) (mid_open files mid entries (c.requires.open told) written)
    ∙ mid_done files mid entries (c.requires.open told) written

-- the entries, and then the commit record
both_leave : {D : Type 0} (g : disk.Ghosts D) (old mid new : D) (stands a : Files) → a ≡ stands
    → CrashLeavesOnly g old mid (ReopensAs stands) → CrashLeavesOnly g mid new (ReopensAs a)
    → CrashLeavesOnly g old new (ReopensAs stands)
both_leave g old mid new stands a same one two =
    leaves_then g old mid new (ReopensAs stands) one (leaves_weaker g mid new (ReopensAs a) (ReopensAs stands)
    (λ image is. record { same = is.same ∙ same; sound = is.sound }) two)

pub returns-in_err-map_err-clause-images : goal.returns-in_err-map_err-clause-images
returns-in_err-map_err-clause-images g c = λ told.
    let at = goal.at.returns-in_err-map_err-clause-images g c in
    both_leave g.D.Disk _ _ _ _ _ (written_stands g at.In-Ok told) (entries_leave g at.After-apply_entries told) (c.close_log.ensures.images told)

pub returns-clause-images : goal.returns-clause-images
returns-clause-images g c = λ told.
    let at = goal.at.returns-clause-images g c in
    both_leave g.D.Disk _ _ _ _ _ (written_stands g at.In-Ok told) (entries_leave g at.After-apply_entries told) (c.close_log.ensures.images told)

pub returns-clause-files : goal.returns-clause-files
returns-clause-files g c = λ told. c.close_log.ensures.same told ∙ written_stands g (goal.at.returns-clause-files g c).In-Ok told

pub returns-in_default-clause-behind : goal.returns-in_default-clause-behind
returns-in_default-clause-behind g c = entries_leave_behind g (goal.at.returns-in_default-clause-behind g c).After-apply_entries

pub returns-in_err-map_err-clause-behind : goal.returns-in_err-map_err-clause-behind
returns-in_err-map_err-clause-behind g c = λ told.
    then_behind g.D.Disk told g.met.D.Disk.earlier 1 (g.D.Disk.files c.args.disk.now).log _ _ _ 0 1 (omega arith)
    (entries_leave_behind g (goal.at.returns-in_err-map_err-clause-behind g c).After-apply_entries told) (c.close_log.ensures.commit_record told)

pub returns-clause-behind : goal.returns-clause-behind
returns-clause-behind g c = λ told.
    then_behind g.D.Disk told g.met.D.Disk.earlier 1 (g.D.Disk.files c.args.disk.now).log _ _ _ 0 1 (omega arith)
    (entries_leave_behind g (goal.at.returns-clause-behind g c).After-apply_entries told) (c.close_log.ensures.commit_record told)
