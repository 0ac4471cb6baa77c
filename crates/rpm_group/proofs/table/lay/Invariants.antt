use Rattle.std.proofs.Common.{◌≡◌, ℕ, ◌+◌, ◌-◌, ◌<◌, ◌≤◌}
use Rattle.std.specs.Prelude.{unwrap_or}
use Rattle.rpm_group.proofs.Vocabulary.{held_at, unit_in}
use Rattle.rpm_group.proofs.table.lay.Given as goal

abbrev pub invariant-loop-done : goal.invariant-loop-done
invariant-loop-done l = record {
  place : l.done ≤ l.count;
  before : (k : ℕ) → k < l.done → unit_in l.into k ≡ unwrap_or (held_at l.table.items (l.unit + k)) (unit_in l.initial.into k);
  behind : (k : ℕ) → l.done ≤ k → unit_in l.into k ≡ unit_in l.initial.into k;
}

abbrev pub decreases-loop-done : goal.decreases-loop-done
decreases-loop-done l = l.count - l.done
