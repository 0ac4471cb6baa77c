use Rattle.std.proofs.Common.{◌∙◌, arith}
use Rattle.rpm_group.proofs.Vocabulary.{entries_of, heads_behind, heads_not_log, then_back, WasWithin}
use Rattle.rpm_group.proofs.Closes.{applied_durable}
use Rattle.rpm_group.proofs.recovery.apply_entries.Goals as goal

pub returns-clause-images : goal.returns-clause-images
returns-clause-images g c = λ told.
    let D = g.D.Disk in
    let old = c.args.disk.now in
    let mid = c.copy_entries.new.disk in
    then_back D old mid c.sync_files.new.disk
    (WasWithin (entries_of (heads_behind c.args.commit_record (D.files old).log)) (D.left_since old (D.moment old)))
    (λ image left. g.met.D.Disk.earlier mid (D.moment old) (D.moment mid) image told c.copy_entries.ensures.reads.log.later (omega arith) left)
    (c.copy_entries.ensures.images told) (c.sync_files.ensures.images told)

pub returns-clause-durable : goal.returns-clause-durable
returns-clause-durable g c = λ told.
    let D = g.D.Disk in
    let old = c.args.disk.now in
    let new = c.sync_files.new.disk in
    let files = D.files old in
    let entries = entries_of (heads_behind c.args.commit_record files.log) in
    applied_durable D old new files (D.files new) entries
    (heads_not_log c.args.commit_record.entries 1 c.args.commit_record.last files.log entries (c.requires.open told))
    (c.sync_files.ensures.same told ∙ c.in_ok-fault.ensures.written told)
    (c.requires.durable told) (returns-clause-images g c told)
    (λ image left. g.met.D.Disk.earlier new (D.moment old) (D.moment new) image told
    (omega (arith, c.copy_entries.ensures.reads.log.later, c.sync_files.ensures.reads.log.later)) (omega arith) left)
    (c.in_ok-sync_files.ensures.pkg told) (c.in_ok-sync_files.ensures.idx told)
