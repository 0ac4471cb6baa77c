use Rattle.std.proofs.Common.{◌≡◌, ◌++◌, take}
use Rattle.rpm_file.specs.Prelude.{stamp_items}
use Rattle.rpm_file.proofs.merging.push_stamps.Given as goal

abbrev pub invariant-loop-stamp : goal.invariant-loop-stamp
invariant-loop-stamp l = l.builder ≡ l.fn.builder ++ stamp_items (take l.stamp-index l.stamps)
