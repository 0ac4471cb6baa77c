use Rattle.std.proofs.Common.{◌≡◌, ◌++◌, take}
use Rattle.rpm_hindex.proofs.rows.Rows.append.Given as goal

abbrev pub invariant-loop-i : goal.invariant-loop-i
invariant-loop-i l = record { so_far : l.self ≡ l.initial.self ++ take l.i l.others }
