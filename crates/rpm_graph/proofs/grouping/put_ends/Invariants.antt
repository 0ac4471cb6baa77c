use Rattle.rpm_graph.proofs.Vocabulary.{GainEnds, row_lists}
use Rattle.rpm_graph.proofs.grouping.put_ends.Given as goal

abbrev pub invariant-loop-to : goal.invariant-loop-to
invariant-loop-to l = GainEnds l.classes l.class l.row l.to-index (row_lists l.initial.targets) (row_lists l.targets)
