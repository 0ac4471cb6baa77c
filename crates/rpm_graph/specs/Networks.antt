-- A graph of numbers, its walks, and which numbers are together.
use Rattle.std.specs.Prelude.{◌≡◌, ℕ, ◌<◌, List, [], ◌∷◌, Contains, length, slice_index, slice_index_or, ◌⊎◌}
use Rattle.rpm_graph.specs.declared.graph.Edge.{Edge}

-- what contracts see of a graph: its numbers, and its edges
pub record Network : Type 0 where
  pub numbers : List ℕ
  pub edges : List Edge

-- the edge from n to m
abbrev pub edge : ℕ → ℕ → Edge
edge n m = record { from = n; to = m }

-- the edge at place i
abbrev pub edge_at : List Edge → ℕ → Edge
edge_at edges i = slice_index_or edges i (edge 0 0)

-- each number is above those before it
abbrev pub IsNumberRising : List ℕ → Type 0
IsNumberRising numbers = (i j : ℕ) → i < j → j < length numbers → slice_index numbers i < slice_index numbers j

-- one edge stands before another: by where they begin, and then by where they end
abbrev pub IsEdgeBefore : Edge → Edge → Type 0
IsEdgeBefore a b = (a.from < b.from) ⊎ ((a.from ≡ b.from) × (a.to < b.to))

-- each edge stands after those before it
abbrev pub AreRising : List Edge → Type 0
AreRising edges = (i j : ℕ) → i < j → j < length edges → IsEdgeBefore (edge_at edges i) (edge_at edges j)

-- an edge joins two different numbers of the list
pub record Joins (numbers : List ℕ) (e : Edge) : Type 0 where
  pub begins : Contains numbers e.from
  pub ends : Contains numbers e.to
  pub differ : e.from ≡ e.to → ⊥

-- numbers and edges rise, and each edge joins two of the numbers
pub record IsNetwork (g : Network) : Type 0 where
  pub numbers : IsNumberRising g.numbers
  pub edges : AreRising g.edges
  pub joins : (i : ℕ) → i < length g.edges → Joins g.numbers (edge_at g.edges i)

-- there is an edge from n to m
abbrev pub HasEdge : Network → ℕ → ℕ → Type 0
HasEdge g n m = Contains g.edges (record { from = n; to = m })

-- a walk goes from n over these nodes to m, each step by an edge
abbrev pub IsWalk : (ℕ → ℕ → Type 0) → ℕ → List ℕ → ℕ → Type 0
IsWalk E n [] m = n ≡ m
IsWalk E n (k ∷ ks) m = E n k × IsWalk E k ks m

-- n leads to m: they are equal, or there is a walk of edges from n to m
abbrev pub Leads : (ℕ → ℕ → Type 0) → ℕ → ℕ → Type 0
Leads E n m = (walk : List ℕ) × IsWalk E n walk m
