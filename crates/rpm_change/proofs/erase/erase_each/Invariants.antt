use Rattle.std.proofs.Common.{◌≡◌, ◌+◌, ◌≤◌, drop}
use Rattle.std.specs.Prelude.{IsTrue}
use Rattle.rpm_change.proofs.Vocabulary.{due, EndedOnErr, erase, erase_one, Going, in_turn, inner, IsOwing, OwesOn, state_in}
use Rattle.rpm_change.proofs.erase.erase_each.Given as goal

abbrev pub invariant-loop-number : goal.invariant-loop-number
invariant-loop-number g l = record {
  goes : Going g.D.Disk (IsOwing g.D.Disk (OwesOn g.D.Disk l.initial.disk l.initial.db l.initial.batch) (g.D.Disk.files l.initial.disk).idx l.disk l.db l.batch)
      (OwesOn g.D.Disk l.initial.disk l.initial.db l.initial.batch) (IsTrue g.D.Disk.tells) l.initial.batch l.batch
      (due (g.D.Disk.files l.initial.disk) l.initial.db l.initial.batch) (due (g.D.Disk.files l.disk) l.db l.batch)
      l.initial.disk l.disk l.initial.db l.db (record { failed = l.failed; changes = l.changes }) (EndedOnErr g.E.Sink l.initial.err l.err)
      (erase (state_in g.D.Disk l.initial.disk l.initial.db) l.numbers)
      (in_turn erase_one (state_in g.D.Disk l.disk l.db) l.number-index (drop l.number-index l.numbers));
  few : l.failed + l.changes ≡ l.number-index;
  err : g.E.Sink.faults (inner l.initial.err) ≤ g.E.Sink.faults (inner l.err);
  err_rest : g.E.Sink.follows (inner l.initial.err) (inner l.err);
}
