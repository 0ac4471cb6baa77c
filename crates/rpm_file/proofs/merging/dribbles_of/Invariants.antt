use Rattle.std.proofs.Common.{◌≡◌, take}
use Rattle.rpm_file.proofs.Vocabulary.{dribbles}
use Rattle.rpm_file.proofs.merging.dribbles_of.Given as goal

abbrev pub invariant-loop-i : goal.invariant-loop-i
invariant-loop-i l = l.builder ≡ dribbles l.main.entries (take l.i l.signature.entries)
