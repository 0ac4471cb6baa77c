use Rattle.std.proofs.Common.{◌≡◌, ℕ, ◌-◌, ◌<◌, ◌≤◌}
use Rattle.std.specs.Prelude.{not}
use Rattle.rpm_group.proofs.Vocabulary.{is_held}
use Rattle.rpm_group.proofs.scan.next_unit.Given as goal

abbrev pub invariant-loop-at : goal.invariant-loop-at
invariant-loop-at l = record {
  from : l.from ≤ l.at;
  end : l.at ≤ l.end;
  between : (i : ℕ) → l.from ≤ i → i < l.at → is_held l.table.items i ≡ not l.held;
}

abbrev pub decreases-loop-at : goal.decreases-loop-at
decreases-loop-at l = l.end - l.at
