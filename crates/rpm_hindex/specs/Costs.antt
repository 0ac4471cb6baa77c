-- What a change reads.
use Rattle.std.specs.Prelude.{ℕ, ◌+◌, ◌*◌, ◌^◌, ◌≤◌, List, length}
use Rattle.std.specs.List.{sum_by}
use Rattle.rpm_outside.specs.Files.{Units, unit_at}
use Rattle.rpm_outside.specs.Words.{word}
use Rattle.rpm_hindex.specs.Rows.{Row}
use Rattle.rpm_hindex.specs.Sizes.{first_record, live_of}
use Rattle.rpm_hindex.specs.Index.{Index, units_at, bucket_of, places_of, records}
use Rattle.rpm_hindex.specs.Plans.{HasChanged}

-- the bytes of a bucket's unit and of the records of its chain
abbrev pub chain_bytes : Index → ℕ → ℕ
chain_bytes x bucket = 16 + 16 * sum_by (units_at x.unit) (places_of x bucket)

-- a list of rows costs the chains of the bucket of each row
abbrev pub chains_bytes : Index → List Row → ℕ
chains_bytes x rows = sum_by (λ (r : Row). chain_bytes x (bucket_of x.buckets r)) rows

-- a change after which there are at most two records a bucket, at most so many units, and no more units without records
-- than with
pub record StaysWithin (limit : ℕ) (drops adds : List Row) (buckets : ℕ) (file : Units) : Type 0 where
  pub rows : List Row
  pub changed : HasChanged drops adds (records buckets file) rows
  pub few : length rows ≤ 2 * buckets
  pub room : word 0 (unit_at file 1) + live_of adds ≤ limit
  pub half : word 0 (unit_at file 1) + live_of adds ≤ first_record buckets + 2 * live_of rows

-- a change stays in place when the file has as many units as it may have
abbrev pub StaysInPlace : List Row → List Row → ℕ → Units → Type 0
StaysInPlace = StaysWithin (2 ^ 28)
