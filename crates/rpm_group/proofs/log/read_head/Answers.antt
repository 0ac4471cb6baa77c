use Rattle.std.proofs.Common.{sym}
use Rattle.rpm_group.proofs.Vocabulary.{head_past, unit_at}
use Rattle.rpm_group.proofs.CommitRecords.{head_read, head_says}
use Rattle.rpm_group.proofs.log.read_head.Goals as goal

pub returns-then-p-last-clause-says : goal.returns-then-p-last-clause-says
returns-then-p-last-clause-says g c = λ told. head_past c.args.last c.args.p (unit_at (g.D.Disk.files c.args.disk.now).log c.args.p) c.if-p-last.true

pub returns-clause-head : goal.returns-clause-head
returns-clause-head g c = head_read c.args.last c.args.p c.in_ok-head.head c.head_of.result (sym c.if-not-is_head.ensures) c.head_of.ensures.file
    c.head_of.ensures.first c.head_of.ensures.count

pub returns-clause-says : goal.returns-clause-says
returns-clause-says g c = λ told.
    head_says c.args.last c.args.p c.in_ok-head.head c.head_of.result (sym c.if-not-is_head.ensures) c.head_of.ensures.file c.head_of.ensures.first
    c.head_of.ensures.count (g.D.Disk.files c.args.disk.now).log (c.in_ok-head.ensures.unit told)
