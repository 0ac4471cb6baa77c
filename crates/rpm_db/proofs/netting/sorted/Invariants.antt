use Rattle.std.proofs.Common.{◌≡◌, take, map}
use Rattle.rpm_db.proofs.Vocabulary.{row_of}
use Rattle.rpm_db.proofs.netting.sorted.Given as goal

abbrev pub invariant-loop-i : goal.invariant-loop-i
invariant-loop-i l = record { so_far : l.sorted ≡ map row_of (take l.i l.all.items) }
