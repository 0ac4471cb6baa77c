use Rattle.std.proofs.Common.{sym, ◌∙◌}
use Rattle.rpm_group.proofs.Vocabulary.{none_closed}
use Rattle.rpm_group.proofs.CommitRecords.{blank_read, wrong_read, right_read}
use Rattle.rpm_group.proofs.log.read_commit_record.Goals as goal

pub returns-then-units-eq0-clause-says : goal.returns-then-units-eq0-clause-says
returns-then-units-eq0-clause-says g c = λ told. none_closed (g.D.Disk.files c.args.disk.now).log (sym (c.in_ok-units.ensures.length told)
    ∙ c.if-units-eq0.true)

pub returns-then-is_blank-clause-says : goal.returns-then-is_blank-clause-says
returns-then-is_blank-clause-says g c = λ told. blank_read (g.D.Disk.files c.args.disk.now) (g.D.Disk.files c.len.new.self) c.in_ok-commit_record.commit_record
    c.in_ok-units.units (c.in_ok-units.ensures.untouched told).same (c.in_ok-commit_record.ensures.unit told) c.if-is_blank.ensures

pub returns-then-not-is_commit_record-clause-says : goal.returns-then-not-is_commit_record-clause-says
returns-then-not-is_commit_record-clause-says g c = λ told.
    wrong_read (g.D.Disk.files c.args.disk.now) (g.D.Disk.files c.len.new.self) c.in_ok-commit_record.commit_record c.in_ok-units.units
    (c.in_ok-units.ensures.untouched told).same (c.in_ok-commit_record.ensures.unit told) c.if-is_blank.ensures (c.in_ok-units.ensures.length told)
    c.if-not-is_commit_record.ensures

pub returns-clause-says : goal.returns-clause-says
returns-clause-says g c = λ told.
    right_read (g.D.Disk.files c.args.disk.now) (g.D.Disk.files c.len.new.self) c.in_ok-commit_record.commit_record c.in_ok-units.units
    (c.in_ok-units.ensures.untouched told).same (c.in_ok-commit_record.ensures.unit told) c.if-is_blank.ensures (c.in_ok-units.ensures.length told)
    c.if-not-is_commit_record.ensures c.word.result c.word-2.result c.word.ensures c.word-2.ensures
