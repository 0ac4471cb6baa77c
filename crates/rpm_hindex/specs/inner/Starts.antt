-- Where the next row of a bucket is looked for first.
use Rattle.std.specs.Prelude.{◌≡◌, ℕ, ◌⊎◌, List, Bool, Option, Some, true, Ok}
use Rattle.std.specs.List.{filter}
use Rattle.rpm_hindex.specs.declared.row_search.Start.{Start}
use Rattle.rpm_hindex.specs.Index.{Index, chain}
use Rattle.rpm_hindex.specs.inner.Spots.{IsPath, IsLastPlace, IsNextUnit, IsFront, IsHeadWithin}

-- a place on the way from there on that is kept, or the end, and the last kept record before it
pub record IsStart (x : Index) (bucket from : ℕ) (kept : ℕ → Bool) (s : Start) : Type 0 where
  pub front : List ℕ
  pub path : IsPath x bucket from front s.at
  pub last : IsLastPlace x.unit (filter kept front) s.before
  pub ends : (s.at ≡ 0) ⊎ (kept s.at ≡ true)

-- each start is one of its bucket's chain, where that is well formed
abbrev pub AreStarts : Index → (ℕ → Bool) → (ℕ → Option Start) → Type 0
AreStarts x kept starts = (bucket : ℕ) (s : Start) → starts bucket ≡ Some s → (places : List ℕ)
    → chain x bucket ≡ Ok places
    → IsStart x bucket (x.head bucket) kept s

-- a start names units among the records
pub record StandsWithin (buckets used : ℕ) (s : Start) : Type 0 where
  pub linked : IsNextUnit buckets used s.at
  pub within : IsHeadWithin used s.before
  pub front : IsFront buckets s.before

abbrev pub StandWithin : ℕ → ℕ → (ℕ → Option Start) → Type 0
StandWithin buckets used starts = (bucket : ℕ) (s : Start) → starts bucket ≡ Some s → StandsWithin buckets used s
