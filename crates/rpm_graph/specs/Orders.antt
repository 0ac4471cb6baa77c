-- The classes of a graph, and the order in which they are listed.
use Rattle.std.specs.Prelude.{◌≡◌, ℕ, ◌<◌, ◌≤◌, ◌⊎◌, ◌↔◌, List, [], take, Contains, length, slice_index, slice_index_or}
use Rattle.rpm_graph.specs.Networks.{Network, HasEdge, Leads}

-- all numbers that are together with one of them, each leading to the other, rising
pub record IsClass (g : Network) (class : List ℕ) : Type 0 where
  pub some : 0 < length class
  pub rises : (i j : ℕ) → i < j → j < length class → slice_index class i < slice_index class j
  pub whole : (n m : ℕ) → Contains class n
      → Contains class m ↔ (Contains g.numbers m × (Leads (HasEdge g) n m × Leads (HasEdge g) m n))

-- a number stands in one of the classes
abbrev pub Lists : List (List ℕ) → ℕ → Type 0
Lists classes n = (k : ℕ) × (k < length classes) × Contains (slice_index_or classes k []) n

-- a class that is not listed yet, and whose edges to other classes end in listed ones
pub record IsAvailable (g : Network) (listed : List (List ℕ)) (class : List ℕ) : Type 0 where
  pub is_class : IsClass g class
  pub unlisted : (n : ℕ) → Contains class n → Lists listed n → ⊥
  pub ends : (n m : ℕ) → Contains class n → HasEdge g n m → Contains class m ⊎ Lists listed m

-- the next class is the available one with the least number, which is its first
pub record IsNextClass (g : Network) (listed : List (List ℕ)) (class : List ℕ) : Type 0 where
  pub available : IsAvailable g listed class
  pub first : (other : List ℕ) → IsAvailable g listed other → slice_index class 0 ≤ slice_index other 0

-- the list of classes in which each is the next one after those before it, and in which each number stands
pub record IsOrder (g : Network) (classes : List (List ℕ)) : Type 0 where
  pub each : (k : ℕ) → k < length classes → IsNextClass g (take k classes) (slice_index_or classes k [])
  pub all : (n : ℕ) → Contains g.numbers n → Lists classes n

-- the number stands in the class at place k
abbrev pub StandsAt : List (List ℕ) → ℕ → ℕ → Type 0
StandsAt classes n k = (k < length classes) × Contains (slice_index_or classes k []) n

-- each number of the graph stands in one class, and in no other
abbrev pub StandOnce : Network → List (List ℕ) → Type 0
StandOnce g classes = (n : ℕ) → Contains g.numbers n → (k : ℕ) × StandsAt classes n k
    × ((j : ℕ) → StandsAt classes n j → j ≡ k)

-- where an edge goes from n to m, the class of m stands before that of n, or both are one
abbrev pub EdgesGoBack : Network → List (List ℕ) → Type 0
EdgesGoBack g classes = (n m k j : ℕ) → HasEdge g n m → StandsAt classes n k → StandsAt classes m j → j ≤ k

-- no other list is the order of the graph
abbrev pub IsOnlyOrder : Network → List (List ℕ) → Type 0
IsOnlyOrder g classes = (other : List (List ℕ)) → IsOrder g other → other ≡ classes
