use Rattle.std.proofs.Common.{◌≤◌, ◌<◌, ◌-◌, get_or, length}
use Rattle.rpm_header.proofs.places.stride_before.Given as goal

abbrev pub invariant-loop-high : goal.invariant-loop-high
invariant-loop-high l = record {
  ordered : l.low < l.high;
  within : l.high ≤ length l.sums;
  fewer : get_or l.sums l.low 0 < l.count;
}

abbrev pub decreases-loop-high : goal.decreases-loop-high
decreases-loop-high l = l.high - l.low
