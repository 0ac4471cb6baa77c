use Rattle.std.proofs.Common.{◌≡◌, ◌≤◌, ◌^◌, ◌-◌, ◌++◌}
use Rattle.std.specs.Prelude.{IsTrue}
use Rattle.std.specs.FinMap as finite
use Rattle.rpm_db.proofs.Vocabulary.{above, cost_to, KeepsStore, OnlyReads, packages, Pkg, rows, rows_in}
use Rattle.rpm_db.proofs.rows.rows_of.Given as goal

abbrev pub invariant-loop-number : goal.invariant-loop-number
invariant-loop-number g l = record {
  keeps : IsTrue g.D.Disk.tells → KeepsStore (g.D.Disk.files l.disk).pkg l.store;
  looks : OnlyReads g.D.Disk Pkg
      (cost_to l.passed l.store) l.initial.disk l.disk;
  faults : g.D.Disk.faults l.initial.disk ≤ g.D.Disk.faults l.disk;
  same : IsTrue g.D.Disk.tells → l.rows ++ rows_in (above l.passed (finite.entries (packages (g.D.Disk.files l.initial.disk).pkg l.store)))
      ≡ rows (packages (g.D.Disk.files l.initial.disk).pkg l.store);
}

abbrev pub decreases-loop-number : goal.decreases-loop-number
decreases-loop-number g l = 2 ^ 32 - l.passed
