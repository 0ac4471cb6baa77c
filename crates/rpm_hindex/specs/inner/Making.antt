-- Records that are to be written.
use Rattle.std.specs.Prelude.{ℕ, ◌+◌, ◌*◌, ◌-◌, ◌^◌, List, ◌∷◌, ◌++◌, length, replicate}
use Rattle.rpm_outside.specs.Files.{Units, cut_up}
use Rattle.rpm_outside.specs.Words.{unit_of_words}
use Rattle.rpm_hindex.specs.Sizes.{key_units}

-- the zeros after a key of so many bytes
abbrev pub key_padding : ℕ → List ℕ
key_padding length = replicate (16 * key_units length - length) 0

-- a record, unit by unit
unfoldable pub record_of : ℕ → ℕ → List ℕ → ℕ → ℕ → Units
record_of next kind key number place =
    unit_of_words next (kind * 2 ^ 28 + length key) number place
    ∷ cut_up (key_units (length key)) (key ++ key_padding (length key))
