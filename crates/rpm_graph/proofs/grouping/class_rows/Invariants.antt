use Rattle.std.proofs.Common.{◌≡◌, length}
use Rattle.rpm_graph.proofs.Vocabulary.{HaveEnds, row_lists}
use Rattle.rpm_graph.proofs.grouping.class_rows.Given as goal

abbrev pub invariant-loop-place : goal.invariant-loop-place
invariant-loop-place l = record {
  sized : length l.ends.items ≡ l.split.count;
  ends : HaveEnds (row_lists l.rows) l.split.classes.items l.place (row_lists l.ends.items);
}
