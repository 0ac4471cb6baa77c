use Rattle.std.proofs.Common.{◌≡◌, [], take, None}
use Rattle.rpm_pkgdb.proofs.Vocabulary.{IsKnown, first_shared_fault}
use Rattle.rpm_pkgdb.proofs.table.exact_numbers.Given as goal

abbrev pub invariant-loop-k : goal.invariant-loop-k
invariant-loop-k l = record {
  known : IsKnown l.opening;
  slots : l.opening.slots.items ≡ take l.k l.slots;
  none : first_shared_fault [] (take l.k l.slots) ≡ None;
}
