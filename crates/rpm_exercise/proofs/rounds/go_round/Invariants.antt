use Rattle.std.proofs.Common.{◌+◌, ◌-◌, ◌≤◌}
use Rattle.std.specs.Prelude.{IsTrue}
use Rattle.rpm_exercise.proofs.Vocabulary.{due, EndedQuietly, flat_map, Going, IsOwing, course_of_changes, OwesOn, range_with_len, round_changes, round_turn}
use Rattle.rpm_exercise.proofs.rounds.go_round.Given as goal

abbrev pub invariant-loop-done : goal.invariant-loop-done
invariant-loop-done g l = record {
  goes : Going g.D.Disk (IsOwing g.D.Disk (OwesOn g.D.Disk l.initial.disk l.initial.db l.initial.batch) (g.D.Disk.files l.initial.disk).idx l.disk l.db l.batch)
      (OwesOn g.D.Disk l.initial.disk l.initial.db l.initial.batch) (IsTrue g.D.Disk.tells) l.initial.batch l.batch
      (due (g.D.Disk.files l.initial.disk) l.initial.db l.initial.batch) (due (g.D.Disk.files l.disk) l.db l.batch)
      l.initial.disk l.disk l.initial.db l.db (record { failed = 0; changes = l.changes }) EndedQuietly
      (course_of_changes (round_changes l.round l.b l.n)) (course_of_changes (flat_map (round_turn l.round l.b) (range_with_len (l.done + 1) (l.n - l.done))));
  few : l.changes ≤ l.done;
}
