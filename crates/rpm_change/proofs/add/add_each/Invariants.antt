use Rattle.std.proofs.Common.{◌≡◌, ◌+◌, ◌≤◌, map, drop}
use Rattle.std.specs.Prelude.{IsTrue}
use Rattle.rpm_change.proofs.Vocabulary.{add_file, add_files, due, EndedOnErr, Going, in_turn, inner, IsOwing, OwesOn, state_in}
use Rattle.rpm_change.proofs.Filed.{bytes}
use Rattle.rpm_change.proofs.add.add_each.Given as goal

abbrev pub invariant-loop-path : goal.invariant-loop-path
invariant-loop-path g l = record {
  goes : Going g.D.Disk (IsOwing g.D.Disk (OwesOn g.D.Disk l.initial.disk l.initial.db l.initial.batch) (g.D.Disk.files l.initial.disk).idx l.disk l.db l.batch)
      (OwesOn g.D.Disk l.initial.disk l.initial.db l.initial.batch) (IsTrue g.D.Disk.tells × IsTrue g.S.Shelf.tells) l.initial.batch l.batch
      (due (g.D.Disk.files l.initial.disk) l.initial.db l.initial.batch) (due (g.D.Disk.files l.disk) l.db l.batch)
      l.initial.disk l.disk l.initial.db l.db (record { failed = l.failed; changes = l.changes }) (EndedOnErr g.E.Sink l.initial.err l.err)
      (add_files (g.S.Shelf.paths l.initial.shelf) l.fn.now (state_in g.D.Disk l.initial.disk l.initial.db) (map bytes l.paths))
      (in_turn (add_file l.fn.now (g.S.Shelf.paths l.initial.shelf)) (state_in g.D.Disk l.disk l.db) l.path-index (drop l.path-index (map bytes l.paths)));
  few : l.failed + l.changes ≡ l.path-index;
  paths : IsTrue g.S.Shelf.tells → g.S.Shelf.paths l.shelf ≡ g.S.Shelf.paths l.initial.shelf;
  shelf : g.S.Shelf.faults l.initial.shelf ≤ g.S.Shelf.faults l.shelf;
  err : g.E.Sink.faults (inner l.initial.err) ≤ g.E.Sink.faults (inner l.err);
  err_rest : g.E.Sink.follows (inner l.initial.err) (inner l.err);
}
