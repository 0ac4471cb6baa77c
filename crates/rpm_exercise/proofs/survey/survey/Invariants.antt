use Rattle.std.proofs.Common.{None, ◌-◌, ◌^◌, ◌≤◌}
use Rattle.std.specs.Prelude.{IsTrue}
use Rattle.rpm_exercise.proofs.Vocabulary.{ExerciseQuestion, HasKeptRows, packages_in, picks, Serves}
use Rattle.rpm_exercise.proofs.Walked.{Walked}
use Rattle.rpm_exercise.proofs.survey.survey.Given as goal

abbrev pub invariant-loop-picked : goal.invariant-loop-picked
invariant-loop-picked g l = record {
  asks : ExerciseQuestion g.D.Disk l.fn.disk l.disk l.db None;
  few : l.count ≤ l.number;
  goes : IsTrue g.D.Disk.tells → HasKeptRows g.D.Disk l.fn.disk l.db → Serves l.picker (packages_in g.D.Disk l.fn.disk l.db) l.selection
      × Walked (picks (packages_in g.D.Disk l.fn.disk l.db) l.selection) l.number l.count l.hasher;
}

abbrev pub decreases-loop-picked : goal.decreases-loop-picked
decreases-loop-picked g l = 2 ^ 32 - l.number
