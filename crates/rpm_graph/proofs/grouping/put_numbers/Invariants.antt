use Rattle.rpm_graph.proofs.Vocabulary.{HaveMembers, row_lists}
use Rattle.rpm_graph.proofs.grouping.put_numbers.Given as goal

abbrev pub invariant-loop-place : goal.invariant-loop-place
invariant-loop-place l = HaveMembers l.numbers l.classes l.place (row_lists l.members)
