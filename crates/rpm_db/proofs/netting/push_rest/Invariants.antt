use Rattle.std.proofs.Common.{◌≡◌, ◌++◌, drop}
use Rattle.rpm_db.proofs.netting.push_rest.Given as goal

abbrev pub invariant-loop-i : goal.invariant-loop-i
invariant-loop-i l = record { so_far : l.rows ++ drop l.i l.others ≡ l.initial.rows ++ drop l.from l.others }
