use Rattle.std.proofs.Common.{◌-◌, ◌≡◌}
use Rattle.rpm_qfeval.proofs.Vocabulary.{IsReadTo}
use Rattle.rpm_qfeval.proofs.cursor.Cursor.go_to.Given as goal

abbrev pub invariant-loop-self : goal.invariant-loop-self
invariant-loop-self l = record {
  same : l.self-inside.value.now ≡ l.initial.self-inside.value.now;
  at : IsReadTo l.self-inside.value.now l.self-inside.ahead l.self-inside.place;
}

abbrev pub decreases-loop-self : goal.decreases-loop-self
decreases-loop-self l = l.place - l.self-inside.place
