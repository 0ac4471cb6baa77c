-- Numbers as they stand in a unit.
use Rattle.std.specs.Prelude.{ℕ, ◌*◌, List, drop, ◌++◌}
use Rattle.std.specs.Int.{w32, from_le_bytes, to_le_bytes}

-- number k of a unit: four bytes, the lowest first
unfoldable pub word : ℕ → List ℕ → ℕ
word k unit = from_le_bytes w32 (drop (4 * k) unit)

-- a number as four bytes
unfoldable pub bytes_of_word : ℕ → List ℕ
bytes_of_word n = to_le_bytes w32 n

-- the unit of four numbers
unfoldable pub unit_of_words : ℕ → ℕ → ℕ → ℕ → List ℕ
unit_of_words a b c d = bytes_of_word a ++ bytes_of_word b ++ bytes_of_word c ++ bytes_of_word d
