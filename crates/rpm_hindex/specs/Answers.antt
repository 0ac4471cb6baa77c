-- What the calls answer.
use Rattle.std.specs.Prelude.{◌≡◌, ℕ, ◌+◌, ◌*◌, ◌<◌, ◌≤◌, ◌⊎◌, List, [], ◌∷◌, length, Bool, ◌&&◌, ◌==◌, Option, Some}
use Rattle.std.specs.Prelude.{None, Result, Ok, Err, slice_index_or}
use Rattle.std.specs.List.{count_by, sum_by}
use Rattle.std.specs.Str.{bytes_eq}
use Rattle.rpm_hindex.specs.declared.hits.Hit.{Hit}
use Rattle.rpm_hindex.specs.declared.faults.FindFault.{FindFault}
use Rattle.rpm_hindex.specs.declared.faults.FindFault.TheVariants.{BadIndex, DiskFault, NoMemory}
use Rattle.rpm_hindex.specs.Rows.{Row, times, same_row}

-- whether two hits are one
abbrev pub same_hit : Hit → Hit → Bool
same_hit a b = (a.number == b.number) && (a.place == b.place)

-- how often a hit is in a list
unfoldable pub times_hit : Hit → List Hit → ℕ
times_hit hit hits = count_by (same_hit hit) hits

-- the hit at a place of a list
abbrev pub hit_at : List Hit → ℕ → Hit
hit_at hits k = slice_index_or hits k (record { number = 0; place = 0 })

-- one hit comes before another by its number, and within a number by its place
abbrev pub IsBefore : Hit → Hit → Type 0
IsBefore a b = (a.number < b.number) ⊎ ((a.number ≡ b.number) × (a.place ≤ b.place))

-- a hit as a row of the index
abbrev pub row_of_hit : ℕ → List ℕ → Hit → Row
row_of_hit kind key hit = record { kind = kind; key = key; number = hit.number; place = hit.place }

-- whether a row has this kind and key
abbrev pub has_key : ℕ → List ℕ → Row → Bool
has_key kind key row = (kind == row.kind) && bytes_eq key row.key

-- whether a row is looked for: one of this kind and key, or of them that of one number and place
abbrev pub is_wanted : ℕ → List ℕ → Option Hit → Row → Bool
is_wanted kind key None = has_key kind key
is_wanted kind key (Some hit) = same_row (row_of_hit kind key hit)

-- the numbers and places of the rows of this kind and key, each as often
abbrev pub AsOften : ℕ → List ℕ → List Row → List Hit → Type 0
AsOften kind key rows hits = (hit : Hit) → times_hit hit hits ≡ times (row_of_hit kind key hit) rows

-- hits rise by number and by place within one, and equal ones follow one another
abbrev pub IsRising : List Hit → Type 0
IsRising hits = (k : ℕ) → k + 1 < length hits → IsBefore (hit_at hits k) (hit_at hits (k + 1))

-- the hits are those of a key's rows, each as often, and rise
pub record AreHits (kind : ℕ) (key : List ℕ) (rows : List Row) (hits : List Hit) : Type 0 where
  pub rising : IsRising hits
  pub each : AsOften kind key rows hits

-- a fault that names a unit names the first fault of this chain
abbrev pub IsFaultOf : Result (List ℕ) ℕ → FindFault → Type 0
IsFaultOf said (BadIndex unit) = said ≡ Err unit
IsFaultOf said DiskFault = Unit {0}
IsFaultOf said NoMemory = Unit {0}

-- hits are those of a chain that is whole
abbrev pub HitsAre : {H : Type 0} → (List ℕ → H → Type 0) → Result (List ℕ) ℕ → H → Type 0
HitsAre P (Ok places) hits = P places hits
HitsAre P (Err unit) hits = ⊥

-- what a chain's places, or its fault, let a call answer, where P says of an answer that it is that of these places
abbrev pub FindIs : {H : Type 0} → (List ℕ → H → Type 0) → Result (List ℕ) ℕ → Result H FindFault → Type 0
FindIs P said (Ok hits) = HitsAre P said hits
FindIs P said (Err fault) = IsFaultOf said fault

-- a fault that says nothing of the index
abbrev pub IsOutsideIndex : FindFault → Type 0
IsOutsideIndex (BadIndex unit) = ⊥
IsOutsideIndex DiskFault = Unit {0}
IsOutsideIndex NoMemory = Unit {0}

-- the hits with that of a row more, where the row has this kind and key
abbrev pub AddsHit : ℕ → List ℕ → Row → List Hit → List Hit → Type 0
AddsHit kind key row old new =
    (hit : Hit) → times_hit hit new ≡ times_hit hit old + times (row_of_hit kind key hit) (row ∷ [])

-- a count rises by at most 16 for each unit of the chain's records, where the chain is well formed
abbrev pub ChainCosts : Result (List ℕ) ℕ → (ℕ → ℕ) → ℕ → ℕ → Type 0
ChainCosts said units old new = (places : List ℕ) → said ≡ Ok places → new ≤ old + 16 * sum_by units places
