use Rattle.std.proofs.Common.{◌≡◌, ℕ, List, [], ◌∷◌, length, IsTrue, ap, ◌∙◌, arith}
use Rattle.rpm_group.proofs.Vocabulary.{BeforeOrAfter, CrashChanges, CrashLeavesOnly, cut_up_one, Entry, Files, IsTail, length-unit, Log, unit_of_words}
use Rattle.rpm_group.proofs.Vocabulary.{units_of, without_log, with_entries, write_leaves}
use Rattle.rpm_group.proofs.Orders.{commit_record_keeps}
use Rattle.rpm_group.proofs.CommitRecordOpens.{opens, commit_record_leaves, commit_record_opened}
use Rattle.rpm_group.proofs.Closes.{synced_leaves}
use Rattle.rpm_group.proofs.commit.open_log.Given.{Over}
use Rattle.rpm_group.proofs.commit.open_log.Goals.{After-write_at}
use Rattle.rpm_group.proofs.commit.open_log.Goals as goal

one_unit : (unit : List ℕ) (a b c d : ℕ) → unit ≡ unit_of_words a b c d → units_of unit ≡ unit ∷ []
one_unit unit a b c d is = cut_up_one unit (ap length is ∙ length-unit a b c d)

-- the log is closed after the write, or open with these entries
write_opens : (g : Over) (c : After-write_at g) → let D = g.D.Disk in let files : Files = D.files c.args.disk.now in IsTrue D.tells
    → (entries : List Entry) → IsTail entries c.args.tail files.log
    → CrashLeavesOnly D c.args.disk.now c.write_at.new.self (BeforeOrAfter (without_log files) (with_entries entries (without_log files)))
write_opens g c told entries is =
    let D = g.D.Disk in
    let files : Files = D.files c.args.disk.now in
    let commit_record = c.unit_of_words-commit_record.result in
    let unit = c.unit_of_words-commit_record.ensures in
    commit_record_leaves D c.args.disk.now c.write_at.new.self files commit_record (units_of commit_record) entries c.args.tail (one_unit _ _ _ _ _ unit)
    (opens commit_record entries c.args.tail files.log unit is c.requires.some (omega arith) c.requires.place c.requires.small) (c.requires.closed told)
    (c.requires.durable told) (c.write_at.ensures.images told) (c.write_at.ensures.time told)

write_changes : (g : Over) (c : After-write_at g) → IsTrue g.D.Disk.tells → CrashChanges g.D.Disk Log 0 1 c.args.disk.now c.write_at.new.self
write_changes g c told =
    write_leaves g.D.Disk Log 0 (units_of c.unit_of_words-commit_record.result) 1 c.args.disk.now c.write_at.new.self
    (omega (arith, ap length (one_unit _ _ _ _ _ c.unit_of_words-commit_record.ensures))) (c.write_at.ensures.images told) (c.write_at.ensures.time told)

pub returns-in_err-write_at-clause-images : goal.returns-in_err-write_at-clause-images
returns-in_err-write_at-clause-images g c = write_opens g (goal.at.returns-in_err-write_at-clause-images g c).After-write_at

pub returns-in_err-sync-clause-images : goal.returns-in_err-sync-clause-images
returns-in_err-sync-clause-images g c = λ told entries is.
    synced_leaves g.D.Disk told g.met.D.Disk.earlier _ _ _ _ (write_opens g (goal.at.returns-in_err-sync-clause-images g c).After-write_at told entries is)
    (c.sync.ensures.time told) (c.sync.ensures.images told)

pub returns-clause-images : goal.returns-clause-images
returns-clause-images g c = λ told entries is.
    synced_leaves g.D.Disk told g.met.D.Disk.earlier _ _ _ _ (write_opens g (goal.at.returns-clause-images g c).After-write_at told entries is)
    (c.sync.ensures.time told) (c.sync.ensures.images told)

pub returns-clause-open : goal.returns-clause-open
returns-clause-open g c = λ told entries is.
    let D = g.D.Disk in
    let files : Files = D.files c.args.disk.now in
    let commit_record = c.unit_of_words-commit_record.result in
    let unit = c.unit_of_words-commit_record.ensures in
    commit_record_opened files (D.files c.write_at.new.self) (D.files c.sync.new.self) commit_record (units_of commit_record) entries c.args.tail
    (one_unit _ _ _ _ _ unit) (opens commit_record entries c.args.tail files.log unit is c.requires.some (omega arith) c.requires.place c.requires.small)
    (c.in_ok-write_at.ensures.written told) (c.sync.ensures.same told)

pub returns-clause-behind : goal.returns-clause-behind
returns-clause-behind g c = λ told.
    let D = g.D.Disk in
    let commit_record = c.unit_of_words-commit_record.result in
    commit_record_keeps commit_record (units_of commit_record) (D.files c.args.disk.now) (D.files c.write_at.new.self) (D.files c.sync.new.self)
    (one_unit _ _ _ _ _ c.unit_of_words-commit_record.ensures) (c.in_ok-write_at.ensures.written told) (c.sync.ensures.same told)

pub returns-in_err-write_at-clause-commit_record : goal.returns-in_err-write_at-clause-commit_record
returns-in_err-write_at-clause-commit_record g c = write_changes g (goal.at.returns-in_err-write_at-clause-commit_record g c).After-write_at

pub returns-in_err-sync-clause-commit_record : goal.returns-in_err-sync-clause-commit_record
returns-in_err-sync-clause-commit_record g c = λ told.
    synced_leaves g.D.Disk told g.met.D.Disk.earlier _ _ _ _ (write_changes g (goal.at.returns-in_err-sync-clause-commit_record g c).After-write_at told)
    (c.sync.ensures.time told) (c.sync.ensures.images told)

pub returns-clause-commit_record : goal.returns-clause-commit_record
returns-clause-commit_record g c = λ told.
    synced_leaves g.D.Disk told g.met.D.Disk.earlier _ _ _ _ (write_changes g (goal.at.returns-clause-commit_record g c).After-write_at told)
    (c.sync.ensures.time told) (c.sync.ensures.images told)
