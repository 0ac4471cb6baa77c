use Rattle.rpm_filecheck.proofs.Vocabulary.{above, packages_cost_to, Keeps, OnlyReads, no_files, packages, Pkg, store_of, with_packages}
use Rattle.std.proofs.Common.{◌≡◌, ◌≤◌, ◌^◌, ◌-◌}
use Rattle.std.specs.Prelude.{IsTrue}
use Rattle.std.specs.FinMap as finite
use Rattle.rpm_filecheck.proofs.gathering.gather.Given as goal

abbrev pub invariant-loop-number : goal.invariant-loop-number
invariant-loop-number g l = record {
  keeps : IsTrue g.D.Disk.tells → Keeps (g.D.Disk.files l.disk).pkg l.db;
  looks : OnlyReads g.D.Disk Pkg
      (packages_cost_to l.passed l.db) l.initial.disk l.disk;
  faults : g.D.Disk.faults l.initial.disk ≤ g.D.Disk.faults l.disk;
  same : IsTrue g.D.Disk.tells → with_packages (above l.passed (finite.entries (packages (g.D.Disk.files l.initial.disk).pkg (store_of l.db)))) l.found
      ≡ with_packages (finite.entries (packages (g.D.Disk.files l.initial.disk).pkg (store_of l.db))) no_files;
}

abbrev pub decreases-loop-number : goal.decreases-loop-number
decreases-loop-number g l = 2 ^ 32 - l.passed
