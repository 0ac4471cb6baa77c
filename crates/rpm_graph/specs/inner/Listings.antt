-- The order of the classes, each known by its number, and what is true at each step of making it.
use Rattle.std.specs.Prelude.{◌≡◌, ℕ, ◌<◌, ◌≤◌, ◌⊎◌, Bool, true, false, List, [], take, replicate, slice_set, sum_by}
use Rattle.std.specs.Prelude.{cond, Contains, length, slice_index, slice_index_or}
use Rattle.rpm_graph.specs.declared.listing.Listing.{Listing}
use Rattle.rpm_graph.specs.inner.Searches.{IsEdge, row_lists}

-- each end of a class is lower than it
abbrev pub AreFalling : List (List ℕ) → Type 0
AreFalling ends = (c d : ℕ) → IsEdge ends c d → d < c

-- a class that is not listed yet, and whose ends are
pub record IsListable (ends : List (List ℕ)) (listed : List ℕ) (c : ℕ) : Type 0 where
  pub within : c < length ends
  pub unlisted : Contains listed c → ⊥
  pub ends_listed : (d : ℕ) → IsEdge ends c d → Contains listed d

-- the next class is the one with the least number among those that are ready
pub record IsLeastReady (ends : List (List ℕ)) (leasts listed : List ℕ) (c : ℕ) : Type 0 where
  pub ready : IsListable ends listed c
  pub first : (d : ℕ) → IsListable ends listed d → slice_index leasts c ≤ slice_index leasts d

-- the list in which each class is the least that is ready after those before it
abbrev pub AreLeast : List (List ℕ) → List ℕ → List ℕ → Type 0
AreLeast ends leasts order = (k : ℕ) → k < length order → IsLeastReady ends leasts (take k order) (slice_index order k)

-- a listing has each class, and each is the least that is ready
pub record IsListing (ends : List (List ℕ)) (leasts order : List ℕ) : Type 0 where
  pub each : AreLeast ends leasts order
  pub all : (c : ℕ) → c < length ends → Contains order c

-- a class is listed already
abbrev pub listed_at : List Bool → ℕ → Bool
listed_at listed c = slice_index_or listed c false

-- The ends of a class are listed up to the one that was checked last. A class that waits for another one has it as an
-- end, and neither is listed. A class among those that are ready is not listed, and all its ends are.
pub record IsUnderway (ends : List (List ℕ)) (leasts : List ℕ) (s : Listing) : Type 0 where
  pub checked_long : length s.checked.items ≡ length ends
  pub waiting_long : length s.waiting.items ≡ length ends
  pub listed_long : length s.listed.items ≡ length ends
  pub checked_in : (c : ℕ) → slice_index s.checked.items c ≤ length (slice_index_or ends c [])
  pub checked : (c i : ℕ) → i < slice_index s.checked.items c
      → listed_at s.listed.items (slice_index (slice_index_or ends c []) i) ≡ true
  pub waits : (d c : ℕ) → IsEdge (row_lists s.waiting.items) d c
      → IsEdge ends c d × (listed_at s.listed.items d ≡ false) × (listed_at s.listed.items c ≡ false)
  pub ready : (n c : ℕ) → Contains s.ready.keys (n, c) → (c < length ends) × (n ≡ slice_index leasts c)
      × (listed_at s.listed.items c ≡ false) × ((d : ℕ) → IsEdge ends c d → listed_at s.listed.items d ≡ true)

-- a class is among those that are ready, or waits for another one
abbrev pub IsReadyOrWaits : List ℕ → Listing → ℕ → Type 0
IsReadyOrWaits leasts s c = Contains s.ready.keys (slice_index leasts c, c)
    ⊎ ((d : ℕ) × IsEdge (row_lists s.waiting.items) d c)

-- each class that is not listed is
abbrev pub ArePlaced : ℕ → List ℕ → Listing → Type 0
ArePlaced count leasts s = (c : ℕ) → c < count → listed_at s.listed.items c ≡ false → IsReadyOrWaits leasts s c

-- each other one is
abbrev pub AreOthersPlaced : ℕ → ℕ → List ℕ → Listing → Type 0
AreOthersPlaced count class leasts s = (c : ℕ) → c < count → listed_at s.listed.items c ≡ false → (c ≡ class)
    ⊎ IsReadyOrWaits leasts s c

-- how many classes are not listed
abbrev pub unlisted_count : List Bool → ℕ
unlisted_count listed = sum_by (λ b. cond b 0 1) listed

-- a listing that has listed nothing
pub record IsBegun (count : ℕ) (s : Listing) : Type 0 where
  pub checked : s.checked.items ≡ replicate count 0
  pub waiting : row_lists s.waiting.items ≡ replicate count []
  pub listed : s.listed.items ≡ replicate count false
  pub ready : s.ready.keys ≡ []

-- a listing after a class was listed, without those that waited for it
pub record IsListedNow (class : ℕ) (s t : Listing) : Type 0 where
  pub checked : t.checked.items ≡ s.checked.items
  pub waiting : row_lists t.waiting.items ≡ slice_set (row_lists s.waiting.items) class []
  pub listed : t.listed.items ≡ slice_set s.listed.items class true
  pub ready : t.ready.keys ≡ s.ready.keys

-- the first place of the row from there on whose class is not listed, or the end of the row
pub record IsFirstUnlisted (row : List ℕ) (listed : List Bool) (from at : ℕ) : Type 0 where
  pub behind : from ≤ at
  pub within : at ≤ length row
  pub before : (i : ℕ) → from ≤ i → i < at → listed_at listed (slice_index row i) ≡ true
  pub there : at < length row → listed_at listed (slice_index row at) ≡ false
