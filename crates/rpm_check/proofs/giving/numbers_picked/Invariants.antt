use Rattle.rpm_check.proofs.Vocabulary.{HasIndexRows, packages, Recalls, store_of}
use Rattle.std.proofs.Common.{◌≡◌, ◌-◌, ◌^◌, ◌++◌}
use Rattle.std.specs.Prelude.{IsTrue}
use Rattle.rpm_check.proofs.Above.{numbers_above}
use Rattle.rpm_check.proofs.giving.numbers_picked.Given as goal
use Rattle.rpm_check.proofs.Asking.{Asking}

abbrev pub invariant-loop-numbers : goal.invariant-loop-numbers
invariant-loop-numbers g l = record {
  asking : Asking g.D.Disk l.fn.disk l.disk l.db;
  recalls : IsTrue g.D.Disk.tells → Recalls (packages (g.D.Disk.files l.fn.disk).pkg (store_of l.db)) l.fn.recent
      → Recalls (packages (g.D.Disk.files l.fn.disk).pkg (store_of l.db)) l.recent;
  told : IsTrue g.D.Disk.tells → HasIndexRows l.db (g.D.Disk.files l.fn.disk).pkg (g.D.Disk.files l.fn.disk).idx
      → Recalls (packages (g.D.Disk.files l.fn.disk).pkg (store_of l.db)) l.fn.recent
      → l.numbers.items ++ numbers_above (packages (g.D.Disk.files l.fn.disk).pkg (store_of l.db)) l.selection l.passed
      ≡ numbers_above (packages (g.D.Disk.files l.fn.disk).pkg (store_of l.db)) l.selection 0;
}

abbrev pub decreases-loop-numbers : goal.decreases-loop-numbers
decreases-loop-numbers g l = 2 ^ 32 - l.passed
