-- The first two units of an index.
use Rattle.std.specs.Prelude.{◌≡◌, ℕ, ◌-◌, ◌*◌, ◌^◌, List, length, Bool, ◌&&◌, ◌==◌, nat_le, if◌then◌else◌, min}
use Rattle.rpm_outside.specs.Files.{Units, unit_at}
use Rattle.rpm_outside.specs.Words.{word, unit_of_words}
use Rattle.rpm_hindex.specs.Sizes.{first_record, is_bucket_count}

-- what a value keeps of the file: its first two units and how many it has; and how many buckets sealing would write, 0
-- where nothing is to be sealed
pub record IndexState : Type 0 where
  pub first : List ℕ
  pub second : List ℕ
  pub units : ℕ
  pub pending : ℕ

-- the value of an index that was just opened
abbrev pub opened_state : Units → IndexState
opened_state file = record { first = unit_at file 0; second = unit_at file 1; units = length file; pending = 0 }

-- what a value keeps of a file is what the file says
pub record KeepsIndexValue (file : Units) (state : IndexState) : Type 0 where
  pub first : state.first ≡ unit_at file 0
  pub second : state.second ≡ unit_at file 1
  pub units : state.units ≡ length file

-- unit 0 has the magic, `RpmH`, and the version
abbrev pub is_headed : List ℕ → Bool
is_headed first = (word 0 first == 1215131730) && (word 1 first == 2)

-- the generation at which an index is sealed, 0 where it isn't
abbrev pub sealed_generation : List ℕ → ℕ
sealed_generation first = if is_headed first then word 2 first else 0

-- the count of buckets, from the first unit
abbrev pub buckets_of : List ℕ → ℕ
buckets_of first = word 3 first

-- the numbers of unit 1 suit so many buckets and units
unfoldable pub is_ordered : ℕ → List ℕ → ℕ → Bool
is_ordered buckets second units =
    is_bucket_count buckets && (nat_le (first_record buckets) (word 0 second)
    && (nat_le (word 0 second) (min units (2 ^ 28)) && (nat_le (word 1 second) (2 * buckets)
    && (nat_le (word 2 second) (word 0 second - first_record buckets)
    && nat_le (word 0 second - first_record buckets - word 2 second) (word 2 second)))))

-- the last number of unit 1 is zero
abbrev pub EndsInZero : List ℕ → Type 0
EndsInZero second = word 3 second ≡ 0

-- the first two units are in order
unfoldable pub is_in_order : IndexState → Bool
is_in_order state = is_headed state.first && is_ordered (buckets_of state.first) state.second state.units

-- sealed at a generation, and in order
unfoldable pub is_current : ℕ → IndexState → Bool
is_current generation state = (sealed_generation state.first == generation) && is_in_order state

-- unit 0 of an index that is sealed
abbrev pub seal_unit : ℕ → ℕ → List ℕ
seal_unit generation buckets = unit_of_words 1215131730 2 generation buckets
