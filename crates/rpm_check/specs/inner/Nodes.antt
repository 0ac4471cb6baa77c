-- The packages that can be read, and which packages each of them requires.
use Rattle.std.specs.Prelude.{ℕ, List, map, filter, All}
use Rattle.std.specs.List.Sorted.{IsStrictlyIncreasing}
use Rattle.rpm_graph.specs.declared.graph.Edge.{Edge}
use Rattle.rpm_graph.specs.Networks.{IsNumberRising, edge}
use Rattle.rpm_check.specs.declared.nodes.Node.{Node}
use Rattle.rpm_check.specs.inner.Ends.{is_end}

-- the numbers of nodes
abbrev pub node_numbers : List Node → List ℕ
node_numbers nodes = map (λ v. v.number) nodes

-- the edges from one to others of these numbers
abbrev pub edges_of : List ℕ → Node → List Edge
edges_of numbers v = map (edge v.number) (filter (is_end numbers v.number) v.ends.items)

-- the nodes' numbers rise, and so do the ends of each node
pub record AreNodesRising (nodes : List Node) : Type 0 where
  pub numbers : IsNumberRising (node_numbers nodes)
  pub ends : All (λ v. IsStrictlyIncreasing v.ends.items) nodes
