use Rattle.rpm_graph.proofs.Vocabulary.{HaveEdges, row_lists}
use Rattle.rpm_graph.proofs.rows.rows.Given as goal

abbrev pub invariant-loop-edge : goal.invariant-loop-edge
invariant-loop-edge l = HaveEdges l.graph l.edge-index (row_lists l.rows.items)
