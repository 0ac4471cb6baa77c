use Rattle.std.proofs.Common.{sym}
use Rattle.std.proofs.lemmas.List.{get_or_past}
use Rattle.rpm_outside.proofs.Vocabulary.{blank}
use Rattle.rpm_outside.proofs.steps.unit_of.Goals as goal

pub returns-else-i-file : goal.returns-else-i-file
unfolding blank
returns-else-i-file c = sym (get_or_past c.args.file.now c.args.i blank c.if-i-file.false)
