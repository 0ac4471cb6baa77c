use Rattle.std.proofs.Common.{◌≡◌, [], replicate}
use Rattle.rpm_graph.proofs.Vocabulary.{row_lists}
use Rattle.rpm_graph.proofs.rows.empty_rows.Given as goal

abbrev pub invariant-loop : goal.invariant-loop
invariant-loop l = row_lists l.rows.items ≡ replicate l.counter []
