use Rattle.std.proofs.Common.{subst}
use Rattle.rpm_header.proofs.Vocabulary.{IsEntryWhole}
use Rattle.rpm_header.proofs.Whole.{is_whole}
use Rattle.rpm_header.proofs.entry.Entry.form.Goals as goal

pub returns-clause-whole : goal.returns-clause-whole
returns-clause-whole c =
    subst IsEntryWhole c.self.view_is (is_whole c.self.inside.tag c.self.inside.form c.self.inside.count c.self.inside.bytes.now c.self.invariant)
