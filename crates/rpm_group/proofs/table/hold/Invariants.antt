use Rattle.std.proofs.Common.{◌≡◌, ◌⊎◌, ℕ, ◌+◌, ◌-◌, ◌<◌, ◌≤◌, Some}
use Rattle.rpm_group.proofs.Vocabulary.{held_at, KeepsPages, unit_in}
use Rattle.rpm_group.proofs.table.hold.Given as goal

abbrev pub invariant-loop-done : goal.invariant-loop-done
invariant-loop-done l = record {
  place : l.done ≤ l.count;
  inside : (k : ℕ) → k < l.done → held_at l.table.items (l.unit + k) ≡ Some (unit_in l.bytes k);
  outside : (i : ℕ) → (i < l.unit) ⊎ (l.unit + l.done ≤ i) → held_at l.table.items i ≡ held_at l.initial.table.items i;
  pages : KeepsPages l.initial.table.items l.table.items;
}

abbrev pub decreases-loop-done : goal.decreases-loop-done
decreases-loop-done l = l.count - l.done
