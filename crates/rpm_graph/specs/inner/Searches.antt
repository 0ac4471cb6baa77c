-- What is true at each step of the search for the classes. Numbers are known by their places here, and each place has a
-- row of the places that its edges end at.
use Rattle.std.specs.Prelude.{◌≡◌, ℕ, ◌+◌, ◌<◌, ◌≤◌, ◌⊎◌, List, [], ◌∷◌, map, take, drop, replicate, ◌++◌, ◌-◌}
use Rattle.std.specs.Prelude.{slice_set, zero, suc, Contains, length, slice_index, slice_index_or, Vec}
use Rattle.rpm_graph.specs.declared.search.Link.{Link}
use Rattle.rpm_graph.specs.declared.search.Search.{Search}
use Rattle.rpm_graph.specs.Networks.{Leads}

-- the rows as lists
abbrev pub row_lists : {A : Type 0} → List (Vec ℕ A) → List (List ℕ)
row_lists rows = map (λ row. row.items) rows

-- an edge goes from v to w
abbrev pub IsEdge : List (List ℕ) → ℕ → ℕ → Type 0
IsEdge rows v w = Contains (slice_index_or rows v []) w

-- each edge ends at a place
abbrev pub AreWithin : List (List ℕ) → Type 0
AreWithin rows = (v w : ℕ) → IsEdge rows v w → w < length rows

-- a link between two places
abbrev pub link : ℕ → ℕ → Link
link v w = record { from = v; to = w }

-- the link at a place of a list
abbrev pub link_at : List Link → ℕ → Link
link_at links i = slice_index_or links i (link 0 0)

-- Each place has a class, and the classes are numbered so that no edge goes to a higher one.
pub record IsSplit (rows : List (List ℕ)) (classes : List ℕ) (count : ℕ) : Type 0 where
  pub sized : length classes ≡ length rows
  pub bounded : (v : ℕ) → v < length rows → slice_index classes v < count
  pub filled : (c : ℕ) → c < count → (v : ℕ) × (v < length rows) × (slice_index classes v ≡ c)
  pub falls : (v w : ℕ) → v < length rows → IsEdge rows v w → slice_index classes w ≤ slice_index classes v
  pub together : (v w : ℕ) → v < length rows → w < length rows → slice_index classes v ≡ slice_index classes w
      → Leads (IsEdge rows) v w

-- the sum of f over the places whose rank is 0, which the search has not entered
abbrev pub unseen : (ℕ → ℕ) → List ℕ → ℕ
unseen f [] = 0
unseen f (zero ∷ ranks) = f 0 + unseen (λ v. f (suc v)) ranks
unseen f (suc rank ∷ ranks) = unseen (λ v. f (suc v)) ranks

-- how many places the search has not entered
abbrev pub unseen_count : List ℕ → ℕ
unseen_count ranks = unseen (λ _. 1) ranks

-- the place is on the path: it has a rank, which is no class's
pub record IsOnPath (n : ℕ) (ranks : List ℕ) (v : ℕ) : Type 0 where
  pub within : v < n
  pub entered : 1 ≤ slice_index ranks v
  pub below : slice_index ranks v ≤ n

-- no root lies between v and w, where v stands after w: then v's level is at most w's
abbrev pub IsNoHigher : List ℕ → List ℕ → ℕ → ℕ → Type 0
IsNoHigher ranks roots v w = (root : ℕ) → Contains roots root → root < slice_index ranks v → root < slice_index ranks w

-- an edge that was looked at goes from the path to a level that is no lower, and from a closed class to one that was
-- closed no later
pub record Follows (n : ℕ) (ranks roots : List ℕ) (v w : ℕ) : Type 0 where
  pub entered : 1 ≤ slice_index ranks w
  pub on_path : slice_index ranks v ≤ n → IsNoHigher ranks roots v w
  pub closed : n < slice_index ranks v → (n < slice_index ranks w) × (slice_index ranks w ≤ slice_index ranks v)

-- The path holds places in the order in which they were entered, and their ranks are their places on it, from 1 on; the
-- roots cut it into levels. Places of one level lead to each other, and to those of higher levels. A closed class k has
-- the rank n + 1 + k.
pub record IsSearch (rows : List (List ℕ)) (ranks path roots : List ℕ) (pending : List Link) (closed : ℕ) : Type 0 where
  pub sized : length ranks ≡ length rows
  pub path_room : length path + unseen_count ranks ≤ length rows
  pub class_room : closed + length roots + unseen_count ranks ≤ length rows
  pub placed : (i : ℕ) → i < length path → (slice_index path i < length rows)
      × (slice_index ranks (slice_index path i) ≡ i + 1)
  pub ranked : (v : ℕ) → IsOnPath (length rows) ranks v
      → (i : ℕ) × (i < length path) × (slice_index ranks v ≡ i + 1) × (slice_index path i ≡ v)
  pub bounded : (v : ℕ) → v < length rows → slice_index ranks v ≤ length rows + closed
  pub filled : (c : ℕ) → c < closed → (v : ℕ) × (v < length rows) × (slice_index ranks v ≡ length rows + 1 + c)
  pub walks : (v w : ℕ) → IsOnPath (length rows) ranks v → IsOnPath (length rows) ranks w → IsNoHigher ranks roots v w
      → Leads (IsEdge rows) v w
  pub together : (v w : ℕ) → v < length rows → w < length rows → length rows < slice_index ranks v
      → slice_index ranks v ≡ slice_index ranks w → Leads (IsEdge rows) v w
  pub looked : (v w : ℕ) → v < length rows → 1 ≤ slice_index ranks v → IsEdge rows v w
      → Contains pending (link v w) ⊎ Follows (length rows) ranks roots v w
  pub pending_open : (i : ℕ) → i < length pending
      → IsOnPath (length rows) ranks (link_at pending i).from
      × IsEdge rows (link_at pending i).from (link_at pending i).to
  pub pending_rises : (i j : ℕ) → i ≤ j → j < length pending
      → slice_index ranks (link_at pending i).from ≤ slice_index ranks (link_at pending j).from
  pub rooted : (root : ℕ) → Contains roots root → root < length path
  pub roots_rise : (i j : ℕ) → i < j → j < length roots → slice_index roots i < slice_index roots j
  pub first : 0 < length path → Contains roots 0

-- kept is the front of the roots, without those at the rank or above
pub record IsFrontOfRoots (roots : List ℕ) (rank : ℕ) (kept : List ℕ) : Type 0 where
  pub front : kept ≡ take (length kept) roots
  pub shorter : length kept ≤ length roots
  pub rest : (i : ℕ) → length kept ≤ i → i < length roots → rank ≤ slice_index roots i

-- the ranks with that rank at the places
pub record IsMarked (ranks places : List ℕ) (rank : ℕ) (marked : List ℕ) : Type 0 where
  pub length_is : length marked ≡ length ranks
  pub there : (v : ℕ) → Contains places v → slice_index marked v ≡ rank
  pub others : (v : ℕ) → Contains places v ⊎ (slice_index marked v ≡ slice_index ranks v)

-- no edge waits, or the last one that does begins at a place of no higher rank
abbrev pub NoneWaits : List ℕ → List Link → ℕ → Type 0
NoneWaits ranks pending rank =
    (length pending ≡ 0) ⊎ ((0 < length pending) × (slice_index ranks (link_at pending (length pending - 1)).from
    ≤ rank))

-- a search that has entered nothing
pub record IsFreshSearch (count : ℕ) (s : Search) : Type 0 where
  pub ranks : s.ranks.items ≡ replicate count 0
  pub path : s.path.items ≡ []
  pub roots : s.roots.items ≡ []
  pub pending : s.pending.items ≡ []
  pub closed : s.closed ≡ 0

-- the search with a place at the end of its path
pub record IsEntered (place : ℕ) (row : List ℕ) (s t : Search) : Type 0 where
  pub ranks : t.ranks.items ≡ slice_set s.ranks.items place (length s.path.items + 1)
  pub path : t.path.items ≡ s.path.items ++ place ∷ []
  pub roots : t.roots.items ≡ s.roots.items ++ length s.path.items ∷ []
  pub pending : t.pending.items ≡ s.pending.items ++ map (λ to. link place to) row
  pub closed : t.closed ≡ s.closed

-- the search without its last level, which begins at this place of the path
pub record IsClosed (root : ℕ) (s t : Search) : Type 0 where
  pub ranks : IsMarked s.ranks.items (drop root s.path.items) (length s.ranks.items + 1 + s.closed) t.ranks.items
  pub path : t.path.items ≡ take root s.path.items
  pub roots : t.roots.items ≡ take (length s.roots.items - 1) s.roots.items
  pub pending : t.pending.items ≡ s.pending.items
  pub closed : t.closed ≡ s.closed + 1

-- a search has these lists, as a search of the graph has them
abbrev pub Searches : List (List ℕ) → Search → Type 0
Searches rows s = IsSearch rows s.ranks.items s.path.items s.roots.items s.pending.items s.closed

-- the root is the last
pub record IsLastRoot (roots : List ℕ) (root : ℕ) : Type 0 where
  pub some : 0 < length roots
  pub last : slice_index roots (length roots - 1) ≡ root

-- what is left to do: the edges that wait, the levels, and both of each place that was not entered
abbrev pub work_left : List (List ℕ) → List ℕ → List ℕ → List Link → ℕ
work_left rows ranks roots pending =
    length pending + length roots + unseen (λ v. length (slice_index_or rows v []) + 2) ranks

-- how much is left to do, which falls with each step
abbrev pub work : List (List ℕ) → Search → ℕ
work rows s = work_left rows s.ranks.items s.roots.items s.pending.items

-- what was entered stays so
abbrev pub KeepsSeen : List ℕ → List ℕ → Type 0
KeepsSeen ranks later = (v : ℕ) → 1 ≤ slice_index ranks v → 1 ≤ slice_index later v

-- the first so many ranks are lower by the base, and the others as they were
pub record IsLowered (ranks : List ℕ) (base count : ℕ) (lowered : List ℕ) : Type 0 where
  pub length_is : length lowered ≡ length ranks
  pub before : (v : ℕ) → v < count → slice_index lowered v + base ≡ slice_index ranks v
  pub after : (v : ℕ) → count ≤ v → slice_index lowered v ≡ slice_index ranks v
