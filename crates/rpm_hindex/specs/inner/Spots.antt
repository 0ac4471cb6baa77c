-- Where a row's record stands in its chain.
use Rattle.std.specs.Prelude.{◌≡◌, ℕ, ◌+◌, ◌*◌, ◌<◌, ◌≤◌, ◌⊎◌, List, [], ◌∷◌, ◌++◌, length, Bool, Option, Some, None}
use Rattle.std.specs.Prelude.{true, false, Ok}
use Rattle.std.specs.List.{filter, Contains, sum_by}
use Rattle.rpm_hindex.specs.declared.heads.Head.{Head}
use Rattle.rpm_hindex.specs.declared.heads.Ahead.{Ahead}
use Rattle.rpm_hindex.specs.declared.heads.Met.{Met}
use Rattle.rpm_hindex.specs.declared.spots.Spot.{Spot}
use Rattle.rpm_outside.specs.Words.{word}
use Rattle.rpm_hindex.specs.Rows.{Row, same_row}
use Rattle.rpm_hindex.specs.Sizes.{first_record}
use Rattle.rpm_hindex.specs.Index.{Index, is_link, is_sound, chain, length_at, units_at, row_at}
use Rattle.rpm_hindex.specs.laws.Parts.{is_placed, next_at}

-- what was read of a record's first unit is what stands there
pub record IsRecordHead (unit : ℕ → List ℕ) (h : Head) : Type 0 where
  pub packed : word 1 (unit h.at) ≡ h.size
  pub number : word 2 (unit h.at) ≡ h.number
  pub «in» : word 3 (unit h.at) ≡ h.place

-- the first unit of a record that can stand there, as it was read
pub record IsRecordAhead (x : Index) (at : ℕ) (a : Ahead) : Type 0 where
  pub placed : is_placed x at ≡ true
  pub next : a.next ≡ next_at x.unit at
  pub head : IsRecordHead x.unit a.head

-- what was read of a record, and whether it is looked for
pub record IsMet (x : Index) (at : ℕ) (wanted : Row → Bool) (m : Met) : Type 0 where
  pub next : m.next ≡ next_at x.unit at
  pub head : IsRecordHead x.unit m.head
  pub long : m.is_wanted ≡ true → length (row_at x.unit at).key ≡ length_at x.unit at
  pub same : m.is_wanted ≡ wanted (row_at x.unit at)

-- 0, or a unit among the records
abbrev pub IsNextUnit : ℕ → ℕ → ℕ → Type 0
IsNextUnit buckets used at = 0 < at → (first_record buckets ≤ at) × (at < used)

-- the next of a record stands before it
pub record FallsTo (buckets used at next : ℕ) : Type 0 where
  pub falls : next < at
  pub linked : IsNextUnit buckets used next

-- the records from a place to another, which is the next of the last
abbrev pub IsPath : Index → ℕ → ℕ → List ℕ → ℕ → Type 0
IsPath x bucket from [] to = from ≡ to
IsPath x bucket from (p ∷ ps) to = (from ≡ p) × (0 < p) × (is_sound x bucket p ≡ true)
    × IsPath x bucket (next_at x.unit p) ps to

-- what is so where the chain from a place on is well formed, and comes to another
abbrev pub OnWay : Index → ℕ → ℕ → ℕ → Type 0 → Type 0
OnWay x bucket from to P = (front rest : List ℕ) → IsPath x bucket from front to → IsPath x bucket to rest 0 → P

-- a count rises by at most 16 for each unit of the records from a place to another
abbrev pub PathCosts : Index → ℕ → ℕ → ℕ → ℕ → ℕ → Type 0
PathCosts x bucket from to old new = (places : List ℕ) → IsPath x bucket from places to
    → new ≤ old + 16 * sum_by (units_at x.unit) places

-- a place that is reached over dropped ones alone, and is kept itself, or the end
pub record SkipsTo (x : Index) (bucket end : ℕ) (kept : ℕ → Bool) (from to : ℕ) : Type 0 where
  pub dropped : List ℕ
  pub path : IsPath x bucket from dropped to
  pub none : filter kept dropped ≡ []
  pub ends : (to ≡ end) ⊎ (kept to ≡ true)

-- the last of these places, or none where there are none
abbrev pub IsLastPlace : (ℕ → List ℕ) → List ℕ → Option Head → Type 0
IsLastPlace unit places None = places ≡ []
IsLastPlace unit places (Some h) = IsRecordHead unit h × ((front : List ℕ) × (places ≡ front ++ h.at ∷ []))

-- none of these places is kept and of the row
abbrev pub HasNone : (ℕ → List ℕ) → (ℕ → Bool) → Row → List ℕ → Type 0
HasNone unit kept row places = (q : ℕ) → Contains places q → kept q ≡ true → same_row row (row_at unit q) ≡ false

-- a kept record of the row, with its neighbours among those from a place to another that are kept
pub record IsSpot (x : Index) (bucket from end : ℕ) (kept : ℕ → Bool) (row : Row) (s : Spot) : Type 0 where
  pub front : List ℕ
  pub path : IsPath x bucket from front s.at
  pub last : IsLastPlace x.unit (filter kept front) s.before
  pub some : 0 < s.at
  pub sound : is_sound x bucket s.at ≡ true
  pub stays : kept s.at ≡ true
  pub same : same_row row (row_at x.unit s.at) ≡ true
  pub long : length (row_at x.unit s.at).key ≡ length_at x.unit s.at
  pub rest : SkipsTo x bucket end kept (next_at x.unit s.at) s.behind

-- none of the records from a place to another is kept and of the row
pub record IsMissing (x : Index) (bucket from end : ℕ) (kept : ℕ → Bool) (row : Row) : Type 0 where
  pub places : List ℕ
  pub path : IsPath x bucket from places end
  pub none : HasNone x.unit kept row places

abbrev pub IsFoundFrom : Index → ℕ → ℕ → ℕ → (ℕ → Bool) → Row → Option Spot → Type 0
IsFoundFrom x bucket from end kept row (Some s) = IsSpot x bucket from end kept row s
IsFoundFrom x bucket from end kept row None = IsMissing x bucket from end kept row

-- the record of a spot can be in the chain of this bucket, by its key too
abbrev pub IsSoundSpot : Index → ℕ → Option Spot → Type 0
IsSoundSpot x bucket None = Unit {0}
IsSoundSpot x bucket (Some s) = is_sound x bucket s.at ≡ true

-- a row was found in a bucket's chain, where that is well formed
pub record IsRowFound (x : Index) (bucket : ℕ) (kept : ℕ → Bool) (row : Row) (o : Option Spot) : Type 0 where
  pub link : is_link x (x.head bucket) ≡ true
  pub found : (places : List ℕ) → chain x bucket ≡ Ok places → IsFoundFrom x bucket (x.head bucket) 0 kept row o

abbrev pub IsHeadWithin : ℕ → Option Head → Type 0
IsHeadWithin used None = Unit {0}
IsHeadWithin used (Some h) = (0 < h.at) × (h.at < used)

-- the record before it stands in front of this unit
abbrev pub IsWithin : ℕ → Option Spot → Type 0
IsWithin used None = Unit {0}
IsWithin used (Some s) = IsHeadWithin used s.before

abbrev pub IsFront : ℕ → Option Head → Type 0
IsFront buckets None = Unit {0}
IsFront buckets (Some h) = first_record buckets ≤ h.at

-- the records on both sides of it stand among the records
abbrev pub IsLinked : ℕ → ℕ → Option Spot → Type 0
IsLinked buckets used None = Unit {0}
IsLinked buckets used (Some s) = IsNextUnit buckets used s.behind × IsFront buckets s.before
