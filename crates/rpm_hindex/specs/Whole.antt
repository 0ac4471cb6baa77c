-- An index that is well formed as a whole.
use Rattle.std.specs.Prelude.{◌≡◌, ℕ, ◌+◌, ◌<◌, ◌≤◌, length, IsOk}
use Rattle.std.specs.List.{sum_by, Contains}
use Rattle.rpm_outside.specs.Files.{Units, unit_at}
use Rattle.rpm_outside.specs.Words.{word}
use Rattle.rpm_hindex.specs.Index.{Index, chain, all_places, units_at, index_in}

-- each chain is well formed, no two records share a unit, and there are so many records of so many units
pub record IsWhole (count units : ℕ) (x : Index) : Type 0 where
  pub chains : (bucket : ℕ) → bucket < x.buckets → IsOk (chain x bucket)
  pub apart : (a b : ℕ) → Contains (all_places x) a → Contains (all_places x) b → a < b → a + units_at x.unit a ≤ b
  pub records : length (all_places x) ≡ count
  pub live : sum_by (units_at x.unit) (all_places x) ≡ units

-- a file of so many buckets is so, and unit 1 gives the two numbers
abbrev pub IsWellFormed : ℕ → Units → Type 0
IsWellFormed buckets file = IsWhole (word 1 (unit_at file 1)) (word 2 (unit_at file 1)) (index_in buckets file)
