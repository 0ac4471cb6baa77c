-- An index that is being made in memory.
use Rattle.std.specs.Prelude.{◌≡◌, ℕ, ◌+◌, ◌-◌, ◌/◌, ◌%◌, ◌<◌, ◌≤◌, List, length}
use Rattle.rpm_outside.specs.Files.{Units, units_of, unit_at}
use Rattle.rpm_outside.specs.Words.{word}
use Rattle.rpm_hindex.specs.Rows.{Row, SameRows}
use Rattle.rpm_hindex.specs.Sizes.{first_record, live_of}
use Rattle.rpm_hindex.specs.Index.{Index, index_in, rows_of, records}
use Rattle.rpm_hindex.specs.Padding.{ArePadded}
use Rattle.rpm_hindex.specs.Whole.{IsWhole, IsWellFormed}

-- the index of these bytes, which begin with unit 1; the words of its buckets stand behind that unit
abbrev pub draft_index : ℕ → List ℕ → Index
draft_index buckets bytes = record {
  buckets = buckets;
  used = 1 + length bytes / 16;
  head = λ bucket. word (4 + bucket) bytes;
  unit = λ i. unit_at (units_of bytes) (i - 1);
}

-- a draft has these rows
pub record IsDraft (rows : List Row) (buckets : ℕ) (bytes : List ℕ) : Type 0 where
  pub whole_units : length bytes % 16 ≡ 0
  pub front : first_record buckets ≤ 1 + length bytes / 16
  pub whole : IsWhole (length rows) (live_of rows) (draft_index buckets bytes)
  pub same : SameRows rows (rows_of (draft_index buckets bytes))
  pub padded : ArePadded (draft_index buckets bytes)

-- the file has these units from unit 1 on
abbrev pub HasDraftUnits : Units → Units → Type 0
HasDraftUnits units file = (k : ℕ) → k < length units → unit_at file (1 + k) ≡ unit_at units k

-- a file that is an index of these rows, which take no unit more than from scratch
pub record IsIndexMade (rows : List Row) (buckets : ℕ) (file : Units) : Type 0 where
  pub whole : IsWellFormed buckets file
  pub same : SameRows rows (records buckets file)
  pub padded : ArePadded (index_in buckets file)

-- units 1 to the end of an index of these rows are these bytes
pub record IsDraftOf (rows : List Row) (buckets : ℕ) (bytes : List ℕ) : Type 0 where
  pub whole_units : length bytes % 16 ≡ 0
  pub long : 1 + length bytes / 16 ≡ first_record buckets + live_of rows
  pub used : word 0 (unit_at (units_of bytes) 0) ≡ first_record buckets + live_of rows
  pub count : word 1 (unit_at (units_of bytes) 0) ≡ length rows
  pub live : word 2 (unit_at (units_of bytes) 0) ≡ live_of rows
  pub last : word 3 (unit_at (units_of bytes) 0) ≡ 0
  pub made : (file : Units) → HasDraftUnits (units_of bytes) file → IsIndexMade rows buckets file
