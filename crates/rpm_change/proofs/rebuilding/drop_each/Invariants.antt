use Rattle.std.proofs.Common.{◌+◌, ◌-◌, ◌^◌, ◌≤◌}
use Rattle.std.specs.Prelude.{IsTrue}
use Rattle.std.specs.FinMap as finite
use Rattle.rpm_change.proofs.Vocabulary.{above, drop_each, due, EndedOnOut, Going, inner, IsOwing, OwesOn, packages_in, rebuild, state_in}
use Rattle.rpm_change.proofs.Dropped.{SameAbove}
use Rattle.rpm_change.proofs.rebuilding.drop_each.Given as goal

abbrev pub invariant-loop-next : goal.invariant-loop-next
invariant-loop-next g l = record {
  goes : Going g.D.Disk (IsOwing g.D.Disk (OwesOn g.D.Disk l.initial.disk l.initial.db l.initial.batch) (g.D.Disk.files l.initial.disk).idx l.disk l.db l.batch)
      (OwesOn g.D.Disk l.initial.disk l.initial.db l.initial.batch) (IsTrue g.D.Disk.tells) l.initial.batch l.batch
      (due (g.D.Disk.files l.initial.disk) l.initial.db l.initial.batch) (due (g.D.Disk.files l.disk) l.db l.batch)
      l.initial.disk l.disk l.initial.db l.db (record { failed = l.failed; changes = l.changes }) (EndedOnOut g.O.Sink l.initial.out l.out)
      (rebuild (state_in g.D.Disk l.initial.disk l.initial.db))
      (drop_each (above l.number (finite.entries (packages_in g.D.Disk l.initial.disk l.initial.db))));
  same : IsTrue g.D.Disk.tells → SameAbove l.number (packages_in g.D.Disk l.initial.disk l.initial.db) (packages_in g.D.Disk l.disk l.db);
  few : l.failed + l.changes ≤ l.number;
  out : g.O.Sink.faults (inner l.initial.out) ≤ g.O.Sink.faults (inner l.out);
  out_rest : g.O.Sink.follows (inner l.initial.out) (inner l.out);
}

abbrev pub decreases-loop-next : goal.decreases-loop-next
decreases-loop-next g l = 2 ^ 32 - l.number
