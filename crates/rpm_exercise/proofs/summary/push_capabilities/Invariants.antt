use Rattle.std.proofs.Common.{◌≡◌, ◌-◌, ◌++◌, None}
use Rattle.std.specs.Prelude.{IsTrue}
use Rattle.rpm_exercise.proofs.Vocabulary.{ExerciseQuestion, capability_line, capability_lines, flat_map, HasKeptRows, packages_in, range_with_len}
use Rattle.rpm_exercise.proofs.summary.push_capabilities.Given as goal

abbrev pub invariant-loop-c : goal.invariant-loop-c
invariant-loop-c g l = record {
  goes : IsTrue g.D.Disk.tells → HasKeptRows g.D.Disk l.initial.disk l.db
      → l.text.items ++ flat_map (capability_line (packages_in g.D.Disk l.initial.disk l.db)) (range_with_len l.c (7 - l.c))
      ≡ l.initial.text.items ++ capability_lines (packages_in g.D.Disk l.initial.disk l.db);
  asks : ExerciseQuestion g.D.Disk l.initial.disk l.disk l.db None;
}
