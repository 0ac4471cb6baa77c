use Rattle.std.proofs.Common.{◌≡◌, [], replicate}
use Rattle.rpm_graph.proofs.Vocabulary.{row_lists}
use Rattle.rpm_graph.proofs.grouping.empty_lists.Given as goal

abbrev pub invariant-loop : goal.invariant-loop
invariant-loop l = row_lists l.lists.items ≡ replicate l.counter []
