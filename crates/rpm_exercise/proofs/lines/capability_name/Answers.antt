use Rattle.rpm_exercise.proofs.Vocabulary.{string_bytes}
use Rattle.rpm_exercise.proofs.Named.{all_named}
use Rattle.rpm_exercise.proofs.lines.capability_name.Goals as goal

pub returns-clause-named : goal.returns-clause-named
returns-clause-named c = all_named string_bytes c.args.c c.format.result c.requires c.format.ensures.ok
