-- Parts of the definitions by name, as proofs, and clauses of a crate's own functions, cite them.
use Rattle.std.specs.Prelude.{ℕ, ◌+◌, ◌*◌, ◌/◌, ◌%◌, ◌^◌, List, [], ◌∷◌, map, Bool, ◌&&◌, bit_xor}
use Rattle.std.specs.Prelude.{nat_lt, nat_le, Result, Ok, Err}
use Rattle.std.specs.List.{fold, range_with_len}
use Rattle.rpm_outside.specs.Files.{Units}
use Rattle.rpm_outside.specs.Words.{word}
use Rattle.rpm_hindex.specs.Index.{Index, is_link, units_at}
use Rattle.rpm_hindex.specs.Sizes.{bucket_count, first_record, key_units}

-- the units of a record whose key has so many bytes
abbrev pub record_units : ℕ → ℕ
record_units length = 1 + key_units length

-- the units of an index made from scratch
abbrev pub index_units : ℕ → ℕ → ℕ
index_units records live = first_record (bucket_count records) + live

-- the hash 32-bit FNV-1a, carried on
abbrev pub fnv : ℕ → List ℕ → ℕ
fnv hash bytes = fold (λ carried b. bit_xor carried b * 16777619 % 2 ^ 32) hash bytes

-- where the next record of a chain stands
abbrev pub next_at : (ℕ → List ℕ) → ℕ → ℕ
next_at unit at = word 0 (unit at)

-- a count of units from this one on
abbrev pub units_from : (ℕ → List ℕ) → ℕ → ℕ → Units
units_from unit from n = map unit (range_with_len from n)

-- the unit of a bucket's word
abbrev pub bucket_unit : ℕ → ℕ
bucket_unit bucket = 2 + bucket / 4

-- a record that can be in the chain of this bucket, by its first unit
abbrev pub is_placed : Index → ℕ → Bool
is_placed x at =
    is_link x (next_at x.unit at) && (nat_lt (next_at x.unit at) at && nat_le (at + units_at x.unit at) x.used)

-- a chain with one more place in front
abbrev pub behind_place : ℕ → Result (List ℕ) ℕ → Result (List ℕ) ℕ
behind_place at (Ok places) = Ok (at ∷ places)
behind_place at (Err unit) = Err unit

-- the places of a chain that is whole, else none
abbrev pub places_in : Result (List ℕ) ℕ → List ℕ
places_in (Ok places) = places
places_in (Err unit) = []

-- the magic of an index, `RpmH`
abbrev pub index_magic : ℕ
index_magic = 1215131730
