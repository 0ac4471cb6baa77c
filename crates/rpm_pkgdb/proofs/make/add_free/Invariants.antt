use Rattle.std.proofs.Common.{◌≡◌, ◌≤◌, ◌++◌, ◌+◌, replicate}
use Rattle.rpm_pkgdb.proofs.Vocabulary.{free, vec_capacity, vec_len}
use Rattle.rpm_pkgdb.proofs.make.add_free.Given as goal

abbrev pub invariant-loop : goal.invariant-loop
invariant-loop l = record {
  items : l.slots.items ≡ l.initial.slots.items ++ replicate l.counter free;
  len : vec_len l.slots ≡ vec_len l.initial.slots + l.counter;
  capacity : vec_capacity l.initial.slots ≤ vec_capacity l.slots;
}
