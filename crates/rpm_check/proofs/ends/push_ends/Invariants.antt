use Rattle.rpm_check.proofs.Vocabulary.{flat_map, givers, HasIndexRows, KnowsGiversOn, packages, requirements, store_of}
use Rattle.std.proofs.Common.{◌≡◌, ◌++◌, length}
use Rattle.std.specs.Prelude.{IsTrue}
use Rattle.rpm_check.proofs.ends.push_ends.Given as goal
use Rattle.rpm_check.proofs.Asking.{Asking}

abbrev pub invariant-loop-needed : goal.invariant-loop-needed
invariant-loop-needed g l = record {
  asking : Asking g.D.Disk l.initial.disk l.disk l.db;
  remembers : KnowsGiversOn g.D.Disk l.initial.disk l.db l.memo;
  told : IsTrue g.D.Disk.tells → HasIndexRows l.db (g.D.Disk.files l.initial.disk).pkg (g.D.Disk.files l.initial.disk).idx
      → l.ends.items ++ flat_map (givers (packages (g.D.Disk.files l.initial.disk).pkg (store_of l.db))) l.left
      ≡ l.initial.ends.items ++ flat_map (givers (packages (g.D.Disk.files l.initial.disk).pkg (store_of l.db))) (requirements l.view);
}

abbrev pub decreases-loop-needed : goal.decreases-loop-needed
decreases-loop-needed g l = length l.left
