use Rattle.rpm_select.proofs.Vocabulary.{packages_cost_to, Keeps, OnlyReads, packages, Pkg, reach_to, store_of, Serves}
use Rattle.std.proofs.Common.{◌≡◌, ◌≤◌, ◌+◌, ◌-◌, ◌^◌}
use Rattle.std.specs.Prelude.{IsTrue}
use Rattle.rpm_select.proofs.Owning.{ReadsOwnTo}
use Rattle.rpm_select.proofs.Picking.{left}
use Rattle.rpm_select.proofs.picker.Picker.next_within.Given as goal

abbrev pub invariant-loop-next : goal.invariant-loop-next
invariant-loop-next g l = record {
  keeps : IsTrue g.D.Disk.tells → Keeps (g.D.Disk.files l.disk).pkg l.db;
  later : l.n ≤ l.passed;
  below : l.passed ≤ l.last;
  more : packages_cost_to l.n l.db ≤ packages_cost_to l.passed l.db;
  looks : OnlyReads g.D.Disk Pkg
      (packages_cost_to l.passed l.db - packages_cost_to l.n l.db) l.initial.disk l.disk;
  own : ReadsOwnTo l.passed l.selection l.db (g.D.Disk.bytes_read l.initial.disk Pkg) (g.D.Disk.bytes_read l.disk Pkg);
  up : reach_to l.n l.self l.db ≤ reach_to l.passed l.self l.db;
  reads : g.D.Disk.bytes_read l.disk Pkg ≤ g.D.Disk.bytes_read l.initial.disk Pkg + (reach_to l.passed l.self l.db - reach_to l.n l.self l.db);
  faults : g.D.Disk.faults l.initial.disk ≤ g.D.Disk.faults l.disk;
  same : IsTrue g.D.Disk.tells → Serves l.self (packages (g.D.Disk.files l.initial.disk).pkg (store_of l.db)) l.selection
      → left (packages (g.D.Disk.files l.initial.disk).pkg (store_of l.db)) l.selection l.n
      ≡ left (packages (g.D.Disk.files l.initial.disk).pkg (store_of l.db)) l.selection l.passed;
}

abbrev pub decreases-loop-next : goal.decreases-loop-next
decreases-loop-next g l = 2 ^ 32 - l.passed
