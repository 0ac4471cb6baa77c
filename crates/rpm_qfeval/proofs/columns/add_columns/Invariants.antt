use Rattle.rpm_qfeval.proofs.Vocabulary.{AreValues}
use Rattle.rpm_qfeval.proofs.columns.add_columns.Given as goal

abbrev pub invariant-loop-found : goal.invariant-loop-found
invariant-loop-found g l = AreValues l.view l.number l.columns.items
