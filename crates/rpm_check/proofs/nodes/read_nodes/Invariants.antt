use Rattle.rpm_check.proofs.Vocabulary.{all_edges, AreNodesRising, edges_from, edges_of, flat_map, good_numbers, good_of, HasIndexRows, KnowsGiversOn, node_numbers}
use Rattle.rpm_check.proofs.Vocabulary.{packages, store_of}
use Rattle.std.proofs.Common.{◌≡◌, ◌-◌, ◌^◌, ◌≤◌, ◌++◌}
use Rattle.std.specs.Prelude.{All, IsTrue}
use Rattle.rpm_check.proofs.Turning.{turns_above}
use Rattle.rpm_check.proofs.nodes.read_nodes.Given as goal
use Rattle.rpm_check.proofs.Asking.{Asking}

abbrev pub invariant-loop-next : goal.invariant-loop-next
invariant-loop-next g l = record {
  asking : Asking g.D.Disk l.initial.disk l.disk l.db;
  remembers : KnowsGiversOn g.D.Disk l.initial.disk l.db l.memo;
  rising : AreNodesRising l.nodes.items;
  reached : All (λ n. n ≤ l.passed) (node_numbers l.nodes.items);
  numbers : IsTrue g.D.Disk.tells
      → node_numbers l.nodes.items ++ turns_above (packages (g.D.Disk.files l.initial.disk).pkg (store_of l.db)) good_of l.passed
      ≡ good_numbers (packages (g.D.Disk.files l.initial.disk).pkg (store_of l.db));
  told : IsTrue g.D.Disk.tells → HasIndexRows l.db (g.D.Disk.files l.initial.disk).pkg (g.D.Disk.files l.initial.disk).idx
      → flat_map (edges_of (good_numbers (packages (g.D.Disk.files l.initial.disk).pkg (store_of l.db)))) l.nodes.items
      ++ turns_above (packages (g.D.Disk.files l.initial.disk).pkg (store_of l.db))
      (λ e. edges_from (packages (g.D.Disk.files l.initial.disk).pkg (store_of l.db)) e.0) l.passed
      ≡ all_edges (packages (g.D.Disk.files l.initial.disk).pkg (store_of l.db));
}

abbrev pub decreases-loop-next : goal.decreases-loop-next
decreases-loop-next g l = 2 ^ 32 - l.passed
