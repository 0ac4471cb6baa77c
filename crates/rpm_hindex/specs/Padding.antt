-- What stands in a record's last unit after its key.
use Rattle.std.specs.Prelude.{◌≡◌, ◌⊎◌, ℕ, ◌+◌, List, drop}
use Rattle.std.specs.List.{All, Contains}
use Rattle.rpm_outside.specs.Files.{bytes_of}
use Rattle.rpm_hindex.specs.Sizes.{key_units}
use Rattle.rpm_hindex.specs.Index.{Index, all_places, length_at, row_at}
use Rattle.rpm_hindex.specs.laws.Parts.{units_from}

-- the bytes of a record after its key
abbrev pub past_key : (ℕ → List ℕ) → ℕ → List ℕ
past_key unit at = drop (length_at unit at) (bytes_of (units_from unit (at + 1) (key_units (length_at unit at))))

-- a record's bytes after its key are zeros
abbrev pub IsPadded : (ℕ → List ℕ) → ℕ → Type 0
IsPadded unit at = All (λ (b : ℕ). b ≡ 0) (past_key unit at)

-- each record of an index has zeros after its key
abbrev pub ArePadded : Index → Type 0
ArePadded x = (at : ℕ) → Contains (all_places x) at → IsPadded x.unit at

-- a record of an index that stood in an earlier one, at the same place, with the same row and the same bytes after its
-- key
pub record Remains (old new : Index) (at : ℕ) : Type 0 where
  pub stood : Contains (all_places old) at
  pub row : row_at new.unit at ≡ row_at old.unit at
  pub past : past_key new.unit at ≡ past_key old.unit at

-- each record of an index is padded, or stood in an earlier one
abbrev pub AddsPadded : Index → Index → Type 0
AddsPadded old new = (at : ℕ) → Contains (all_places new) at → IsPadded new.unit at ⊎ Remains old new at
