use Rattle.std.proofs.Common.{◌≡◌, ℕ, ◌++◌, take}
use Rattle.rpm_pkgdb.proofs.Vocabulary.{AreNumbered, AreOwn, Awaits, IsInOrder, slots_in, units_of}
use Rattle.rpm_pkgdb.proofs.reading.add_own.Given as goal

abbrev pub invariant-loop-k : goal.invariant-loop-k
invariant-loop-k l = record {
  slots : l.rising.slots.items ≡ l.initial.rising.slots.items ++ slots_in (take l.k (units_of l.bytes));
  own : AreOwn l.pages l.units (units_of l.bytes) l.k;
  order : IsInOrder l.rising;
  numbered : AreNumbered l.rising.slots.items;
  awaits : (n : ℕ) → Awaits l.pages n l.initial.rising → Awaits l.pages n l.rising;
}
