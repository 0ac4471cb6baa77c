-- The chains of an index, and the rows that they hold.
use Rattle.std.specs.Prelude.{ℕ, zero, suc, ◌+◌, ◌/◌, ◌%◌, ◌^◌, List, [], ◌∷◌, take, map, Bool, ◌&&◌, ◌||◌, ◌==◌}
use Rattle.std.specs.Prelude.{nat_lt, nat_le, if◌then◌else◌, Result, Ok, Err}
use Rattle.std.specs.List.{flat_map, range_with_len}
use Rattle.rpm_outside.specs.Files.{Units, unit_at, bytes_of}
use Rattle.rpm_outside.specs.Words.{word}
use Rattle.rpm_hindex.specs.Rows.{Row, hash_of}
use Rattle.rpm_hindex.specs.Sizes.{key_units, first_record}

-- what chains look at: the words of the buckets, and each unit by its place
pub record Index : Type 0 where
  pub buckets : ℕ
  pub used : ℕ
  pub head : ℕ → ℕ
  pub unit : ℕ → List ℕ

-- ---- one record

-- the length of a record's key
abbrev pub length_at : (ℕ → List ℕ) → ℕ → ℕ
length_at unit at = word 1 (unit at) % 2 ^ 28

-- how many units a record has
abbrev pub units_at : (ℕ → List ℕ) → ℕ → ℕ
units_at unit at = 1 + key_units (length_at unit at)

-- the key of a record, in the units after its first one
abbrev pub key_at : (ℕ → List ℕ) → ℕ → List ℕ
key_at unit at = take (length_at unit at) (bytes_of (map unit (range_with_len (at + 1) (key_units (length_at unit at)))))

-- the row of a record
unfoldable pub row_at : (ℕ → List ℕ) → ℕ → Row
row_at u at = record { kind = word 1 (u at) / 2 ^ 28; key = key_at u at; number = word 2 (u at); place = word 3 (u at) }

-- ---- chains

-- the bucket of a row
abbrev pub bucket_of : ℕ → Row → ℕ
bucket_of buckets row = hash_of row.kind row.key % buckets

-- a word is 0, or names a unit that can be a record's
abbrev pub is_link : Index → ℕ → Bool
is_link x at = (at == 0) || (nat_le (first_record x.buckets) at && nat_lt at x.used)

-- whether a record links to an earlier one by its first word, stands in what is used and has its own bucket
unfoldable pub is_sound : Index → ℕ → ℕ → Bool
is_sound x bucket at = (is_link x (word 0 (x.unit at))
    && (nat_lt (word 0 (x.unit at)) at && nat_le (at + units_at x.unit at) x.used))
    && (bucket_of x.buckets (row_at x.unit at) == bucket)

-- the places of the records from this one on, or the first that breaks a rule; n is at least the place
abbrev pub follow : Index → ℕ → ℕ → ℕ → Result (List ℕ) ℕ
follow x bucket zero at = Ok []
follow x bucket (suc n) at =
    if at == 0 then Ok []
    else if is_sound x bucket at
    then elim (follow x bucket n (word 0 (x.unit at))) [ Ok places ↦ Ok (at ∷ places) | Err unit ↦ Err unit ]
    else Err at

-- the chain of a bucket: the places of its records, or the unit of its first fault, which may be that of its word
unfoldable pub chain : Index → ℕ → Result (List ℕ) ℕ
chain x bucket =
    if is_link x (x.head bucket) then follow x bucket (x.head bucket) (x.head bucket) else Err (2 + bucket / 4)

-- the places of the records of a bucket whose chain is whole, else none
unfoldable pub places_of : Index → ℕ → List ℕ
places_of x bucket = elim (chain x bucket) [ Ok places ↦ places | Err unit ↦ [] ]

-- the places of all records, bucket by bucket
unfoldable pub all_places : Index → List ℕ
all_places x = flat_map (places_of x) (range_with_len 0 x.buckets)

-- the rows of an index
unfoldable pub rows_of : Index → List Row
rows_of x = map (row_at x.unit) (all_places x)

-- ---- in a file

-- the index of so many buckets that a file holds
abbrev pub index_in : ℕ → Units → Index
index_in buckets file = record {
  buckets = buckets;
  used = word 0 (unit_at file 1);
  unit = unit_at file;
  head = λ bucket. word (bucket % 4) (unit_at file (2 + bucket / 4));
}

-- the rows in the chains of a file of so many buckets
abbrev pub records : ℕ → Units → List Row
records buckets file = rows_of (index_in buckets file)
