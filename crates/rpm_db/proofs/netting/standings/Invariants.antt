use Rattle.std.proofs.Common.{◌≡◌, take, map}
use Rattle.rpm_db.proofs.Vocabulary.{row_of}
use Rattle.rpm_db.proofs.netting.standings.Given as goal

abbrev pub invariant-loop-i : goal.invariant-loop-i
invariant-loop-i l = record { so_far : map row_of l.all.items ≡ take l.i l.rows }
