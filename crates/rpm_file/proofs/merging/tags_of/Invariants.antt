use Rattle.std.proofs.Common.{take}
use Rattle.rpm_file.proofs.Vocabulary.{HasTags}
use Rattle.rpm_file.proofs.merging.tags_of.Given as goal

abbrev pub invariant-loop-i : goal.invariant-loop-i
invariant-loop-i l = HasTags (take l.i l.main.entries) l.has.items
