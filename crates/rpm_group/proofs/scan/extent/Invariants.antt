use Rattle.std.proofs.Common.{◌≡◌, ◌+◌, ◌*◌, ◌-◌, ◌<◌, ◌≤◌, false}
use Rattle.rpm_group.proofs.Vocabulary.{begins_run, count_below, is_held}
use Rattle.rpm_group.proofs.scan.extent.Given as goal

abbrev pub invariant-loop-at : goal.invariant-loop-at
invariant-loop-at l = record {
  end : l.at ≤ l.end;
  bound : l.so_far.runs + l.so_far.units ≤ 2 * l.at;
  runs : l.so_far.runs ≡ count_below (begins_run l.table.items) l.at;
  units : l.so_far.units ≡ count_below (is_held l.table.items) l.at;
  starts : 0 < l.at → l.at < l.end → is_held l.table.items l.at ≡ false;
}

abbrev pub decreases-loop-at : goal.decreases-loop-at
decreases-loop-at l = l.end - l.at
