use Rattle.std.proofs.Common.{◌≡◌, ◌++◌, drop}
use Rattle.std.specs.Prelude.{All}
use Rattle.rpm_check.proofs.Vocabulary.{edges_of, flat_map}
use Rattle.rpm_check.proofs.Gathering.{IsBelowFrom}
use Rattle.rpm_check.proofs.edges.push_all_edges.Given as goal

abbrev pub invariant-loop-node : goal.invariant-loop-node
invariant-loop-node l = record {
  numbers : l.graph.numbers ≡ l.initial.graph.numbers;
  below : All (λ e. IsBelowFrom l.nodes l.node-index e.from) l.graph.edges;
  told : l.graph.edges ++ flat_map (edges_of l.initial.graph.numbers) (drop l.node-index l.nodes)
      ≡ flat_map (edges_of l.initial.graph.numbers) l.nodes;
}
