use Rattle.std.proofs.Common.{IsTrue, refl, ap, ◌∙◌}
use Rattle.rpm_group.proofs.Vocabulary.{CrashChanges, CrashLeavesOnly, entries_of, Files, Log, log_state, ReopensAs, without_log, write_leaves}
use Rattle.rpm_group.proofs.Orders.{commit_record_keeps}
use Rattle.rpm_group.proofs.Closes.{closing_leaves, closed_after, synced_leaves}
use Rattle.rpm_group.proofs.recovery.close_log.Given.{Over}
use Rattle.rpm_group.proofs.recovery.close_log.Goals.{After-write_at}
use Rattle.rpm_group.proofs.recovery.close_log.Goals as goal

write_closes : (g : Over) (c : After-write_at g) → IsTrue g.D.Disk.tells
    → CrashLeavesOnly g.D.Disk c.args.disk.now c.write_at.new.self (ReopensAs (without_log (g.D.Disk.files c.args.disk.now)))
write_closes g c told =
    let D = g.D.Disk in
    let files = D.files c.args.disk.now in
    closing_leaves D c.args.disk.now c.write_at.new.self files _ (entries_of (log_state files.log)) refl (c.requires.some told)
    (c.requires.open told) (c.requires.done told) (c.requires.durable told) (c.write_at.ensures.images told) (c.write_at.ensures.time told)

write_changes : (g : Over) (c : After-write_at g) → IsTrue g.D.Disk.tells → CrashChanges g.D.Disk Log 0 1 c.args.disk.now c.write_at.new.self
write_changes g c told =
    write_leaves g.D.Disk Log 0 _ 1 c.args.disk.now c.write_at.new.self refl (c.write_at.ensures.images told) (c.write_at.ensures.time told)

pub returns-in_err-write_at-clause-images : goal.returns-in_err-write_at-clause-images
returns-in_err-write_at-clause-images g c = write_closes g (goal.at.returns-in_err-write_at-clause-images g c).After-write_at

pub returns-in_err-sync-clause-images : goal.returns-in_err-sync-clause-images
returns-in_err-sync-clause-images g c = λ told.
    synced_leaves g.D.Disk told g.met.D.Disk.earlier _ _ _ _ (write_closes g (goal.at.returns-in_err-sync-clause-images g c).After-write_at told)
    (c.sync.ensures.time told) (c.sync.ensures.images told)

pub returns-clause-images : goal.returns-clause-images
returns-clause-images g c = λ told.
    synced_leaves g.D.Disk told g.met.D.Disk.earlier _ _ _ _ (write_closes g (goal.at.returns-clause-images g c).After-write_at told)
    (c.sync.ensures.time told) (c.sync.ensures.images told)

pub returns-in_err-write_at-clause-commit_record : goal.returns-in_err-write_at-clause-commit_record
returns-in_err-write_at-clause-commit_record g c = write_changes g (goal.at.returns-in_err-write_at-clause-commit_record g c).After-write_at

pub returns-in_err-sync-clause-commit_record : goal.returns-in_err-sync-clause-commit_record
returns-in_err-sync-clause-commit_record g c = λ told.
    synced_leaves g.D.Disk told g.met.D.Disk.earlier _ _ _ _ (write_changes g (goal.at.returns-in_err-sync-clause-commit_record g c).After-write_at told)
    (c.sync.ensures.time told) (c.sync.ensures.images told)

pub returns-clause-commit_record : goal.returns-clause-commit_record
returns-clause-commit_record g c = λ told.
    synced_leaves g.D.Disk told g.met.D.Disk.earlier _ _ _ _ (write_changes g (goal.at.returns-clause-commit_record g c).After-write_at told)
    (c.sync.ensures.time told) (c.sync.ensures.images told)

pub returns-clause-closed : goal.returns-clause-closed
returns-clause-closed g c = λ told.
    let D = g.D.Disk in
    ap (λ (f : Files). log_state f.log) (c.in_ok-sync.ensures.same told)
    ∙ closed_after (D.files c.args.disk.now) (D.files c.write_at.new.self) _ refl (c.in_ok-write_at.ensures.written told)

pub returns-clause-behind : goal.returns-clause-behind
returns-clause-behind g c = λ told.
    let D = g.D.Disk in
    commit_record_keeps _ _ (D.files c.args.disk.now) (D.files c.write_at.new.self) (D.files c.sync.new.self) refl (c.in_ok-write_at.ensures.written told)
    (c.in_ok-sync.ensures.same told)
