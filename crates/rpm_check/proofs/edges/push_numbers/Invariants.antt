use Rattle.std.proofs.Common.{◌≡◌, ◌++◌, drop}
use Rattle.std.specs.Prelude.{All}
use Rattle.rpm_check.proofs.Vocabulary.{node_numbers}
use Rattle.rpm_check.proofs.Gathering.{IsBelowFrom}
use Rattle.rpm_check.proofs.edges.push_numbers.Given as goal

abbrev pub invariant-loop-node : goal.invariant-loop-node
invariant-loop-node l = record {
  edges : l.graph.edges ≡ l.initial.graph.edges;
  below : All (IsBelowFrom l.nodes l.node-index) l.graph.numbers;
  told : l.graph.numbers ++ node_numbers (drop l.node-index l.nodes) ≡ node_numbers l.nodes;
}
