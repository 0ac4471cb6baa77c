use Rattle.rpm_select.proofs.Vocabulary.{AllByRecursion, has_row, HasChain, HasRows, Idx, is_in, IsFaultOfOne, KeepsIndex, keys_cost, list_any, OnlyReadsFile}
use Rattle.rpm_select.proofs.Vocabulary.{packages, store_of, rows, Units}
use Rattle.std.proofs.Common.{◌≡◌, ◌≤◌, ◌+◌, ◌||◌, ℕ, length}
use Rattle.std.specs.Prelude.{IsTrue}
use Rattle.rpm_select.proofs.asking.found.Given as goal

abbrev pub invariant-loop-left : goal.invariant-loop-left
invariant-loop-left g l = record {
  keeps : IsTrue g.D.Disk.tells → KeepsIndex (g.D.Disk.files l.disk).idx l.db;
  among : IsTrue g.D.Disk.tells → HasRows (packages (g.D.Disk.files l.initial.disk).pkg (store_of l.db)) (g.D.Disk.files l.initial.disk).idx → (n : ℕ)
      → (is_in n l.numbers.items || list_any (has_row (rows (packages (g.D.Disk.files l.initial.disk).pkg (store_of l.db))) n) l.left)
      ≡ list_any (has_row (rows (packages (g.D.Disk.files l.initial.disk).pkg (store_of l.db))) n) l.keys;
  broken : (idx : Units) (unit : ℕ) → IsFaultOfOne l.left idx unit → IsFaultOfOne l.keys idx unit;
  cost : IsTrue g.D.Disk.tells → AllByRecursion (HasChain (g.D.Disk.files l.initial.disk).idx) l.keys
      → AllByRecursion (HasChain (g.D.Disk.files l.initial.disk).idx) l.left
      × (g.D.Disk.bytes_read l.disk Idx + keys_cost (g.D.Disk.files l.initial.disk).idx l.left
      ≤ g.D.Disk.bytes_read l.initial.disk Idx + keys_cost (g.D.Disk.files l.initial.disk).idx l.keys);
  looks : OnlyReadsFile g.D.Disk Idx l.initial.disk l.disk;
  faults : g.D.Disk.faults l.initial.disk ≤ g.D.Disk.faults l.disk;
}

abbrev pub decreases-loop-left : goal.decreases-loop-left
decreases-loop-left g l = length l.left
