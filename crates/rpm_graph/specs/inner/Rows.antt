-- Rows of places, as they are made from a graph.
use Rattle.std.specs.Prelude.{◌≡◌, ℕ, ◌<◌, ◌++◌, ◌⊎◌, List, [], ◌∷◌, Contains, length, slice_index, slice_index_or}
use Rattle.std.specs.Prelude.{slice_set}
use Rattle.rpm_graph.specs.Networks.{Network, HasEdge, IsNumberRising, edge_at}
use Rattle.rpm_graph.specs.inner.Searches.{IsEdge, AreWithin}

-- the least number of a class
abbrev pub least : List ℕ → ℕ
least class = slice_index class 0

-- the rows with one more edge
abbrev pub with_link : List (List ℕ) → ℕ → ℕ → List (List ℕ)
with_link rows v w = slice_set rows v (slice_index_or rows v [] ++ w ∷ [])

-- the rows have the first so many edges of the graph, between the places of their numbers
pub record HaveEdges (g : Network) (count : ℕ) (rows : List (List ℕ)) : Type 0 where
  pub sized : length rows ≡ length g.numbers
  pub within : AreWithin rows
  pub there : (k : ℕ) → k < count → (v : ℕ) × (w : ℕ) × (v < length g.numbers)
      × (slice_index g.numbers v ≡ (edge_at g.edges k).from)
      × (slice_index g.numbers w ≡ (edge_at g.edges k).to) × IsEdge rows v w
  pub back : (v w : ℕ) → IsEdge rows v w → HasEdge g (slice_index g.numbers v) (slice_index g.numbers w)

-- the lists have the numbers of the first so many places, each in the list of its place's class, rising
pub record HaveMembers (numbers classes : List ℕ) (k : ℕ) (members : List (List ℕ)) : Type 0 where
  pub there : (v : ℕ) → v < k → Contains (slice_index_or members (slice_index classes v) []) (slice_index numbers v)
  pub only : (c n : ℕ) → Contains (slice_index_or members c []) n
      → (v : ℕ) × (v < k) × (slice_index classes v ≡ c) × (slice_index numbers v ≡ n)
  pub rises : (c : ℕ) → IsNumberRising (slice_index_or members c [])

-- the rows of classes with the first so many ends of a row of the class, each by its own class, but for those of that
-- class itself
pub record GainEnds (classes : List ℕ) (class : ℕ) (row : List ℕ) (count : ℕ)
    (before after : List (List ℕ)) : Type 0 where
  pub sized : length after ≡ length before
  pub keeps : (c d : ℕ) → IsEdge before c d → IsEdge after c d
  pub there : (i : ℕ) → i < count → (slice_index classes (slice_index row i) ≡ class)
      ⊎ IsEdge after class (slice_index classes (slice_index row i))
  pub only : (c d : ℕ) → IsEdge after c d → IsEdge before c d
      ⊎ ((c ≡ class) × ((i : ℕ) × (i < count) × (slice_index classes (slice_index row i) ≡ d)) × (d ≡ class → ⊥))

-- the rows have the classes in which the edges of the first so many places end, each in the row of the class in which
-- they begin, but for edges within a class
pub record HaveEnds (rows : List (List ℕ)) (classes : List ℕ) (count : ℕ) (ends : List (List ℕ)) : Type 0 where
  pub there : (v w : ℕ) → v < count → IsEdge rows v w
      → (slice_index classes w ≡ slice_index classes v) ⊎ IsEdge ends (slice_index classes v) (slice_index classes w)
  pub back : (c d : ℕ) → IsEdge ends c d
      → (v : ℕ) × (w : ℕ) × (v < count) × IsEdge rows v w × (slice_index classes v ≡ c) × (slice_index classes w ≡ d)
      × (d ≡ c → ⊥)

-- the numbers are the least ones of the first so many lists
abbrev pub AreLeastNumbers : List (List ℕ) → ℕ → List ℕ → Type 0
AreLeastNumbers lists count leasts = (c : ℕ) → c < count → slice_index leasts c ≡ least (slice_index_or lists c [])
