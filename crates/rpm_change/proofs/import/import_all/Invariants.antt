use Rattle.std.proofs.Common.{◌≡◌, ◌+◌, ◌-◌, ◌≤◌, false}
use Rattle.std.specs.Prelude.{IsTrue}
use Rattle.rpm_change.proofs.Vocabulary.{due, EndedOnErr, from_place, Going, inner, IsOwing, bytes_left, list_course, OwesOn}
use Rattle.rpm_change.proofs.import.import_all.Given as goal

abbrev pub invariant-loop-is_last : goal.invariant-loop-is_last
invariant-loop-is_last g l = record {
  goes : Going g.D.Disk (IsOwing g.D.Disk (OwesOn g.D.Disk l.initial.disk l.initial.db l.initial.batch) (g.D.Disk.files l.initial.disk).idx l.disk l.db l.batch)
      (OwesOn g.D.Disk l.initial.disk l.initial.db l.initial.batch) (IsTrue g.D.Disk.tells × IsTrue g.S.Shelf.tells) l.initial.batch l.batch
      (due (g.D.Disk.files l.initial.disk) l.initial.db l.initial.batch) (due (g.D.Disk.files l.disk) l.db l.batch)
      l.initial.disk l.disk l.initial.db l.db (record { failed = l.failed; changes = l.changes }) (EndedOnErr g.E.Sink l.initial.err l.err)
      (list_course l.most 1 (bytes_left (g.S.Shelf.rest l.initial.shelf)))
      (from_place l.is_last l.most l.place (bytes_left (g.S.Shelf.rest l.shelf)));
  few : l.failed + l.changes + 1 ≤ l.place;
  within : l.is_last ≡ false → l.place ≤ l.most + 1;
  below : l.place ≤ l.most + 2;
  paths : IsTrue g.S.Shelf.tells → g.S.Shelf.paths l.shelf ≡ g.S.Shelf.paths l.initial.shelf;
  shelf : g.S.Shelf.faults l.initial.shelf ≤ g.S.Shelf.faults l.shelf;
  err : g.E.Sink.faults (inner l.initial.err) ≤ g.E.Sink.faults (inner l.err);
  err_rest : g.E.Sink.follows (inner l.initial.err) (inner l.err);
}

abbrev pub decreases-loop-is_last : goal.decreases-loop-is_last
decreases-loop-is_last g l = l.most + 2 - l.place
