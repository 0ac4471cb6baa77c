use Rattle.rpm_qfeval.proofs.Vocabulary.{AreValues}
use Rattle.rpm_qfeval.proofs.columns.look_up.Given as goal

abbrev pub invariant-loop-asked : goal.invariant-loop-asked
invariant-loop-asked g l = AreValues l.view l.number l.found.items
