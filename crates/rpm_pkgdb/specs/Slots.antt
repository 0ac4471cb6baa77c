-- The slots of a store.
use Rattle.std.specs.Prelude.{ℕ, ◌+◌, ◌<◌, List, [], ◌∷◌, map, Bool, not, ◌&&◌, ◌==◌, nat_lt, if◌then◌else◌, Option}
use Rattle.std.specs.Prelude.{max, slice_index_or}
use Rattle.std.specs.List.{find}
use Rattle.rpm_outside.specs.Files.{Units}
use Rattle.rpm_pkgdb.specs.declared.slot.Slot.{Slot}
use Rattle.rpm_pkgdb.specs.Words.{word}

-- the slot in a unit, after its magic
abbrev pub slot_of : List ℕ → Slot
slot_of unit = record { number = word 1 unit; offset = word 2 unit; count = word 3 unit }

-- the slots that some units hold
unfoldable pub slots_in : Units → List Slot
slots_in units = map slot_of units

-- a slot whose block offset is 0 is free
abbrev pub is_used : Slot → Bool
is_used s = not (s.offset == 0)

-- a slot without a package
abbrev pub free : Slot
free = record { number = 0; offset = 0; count = 0 }

-- the slot at a place, and a free one past the end
abbrev pub slot_at : List Slot → ℕ → Slot
slot_at slots k = slice_index_or slots k free

-- the first block after a slot's blocks
abbrev pub end_of : Slot → ℕ
end_of s = s.offset + s.count

-- the blocks of t, which is used, meet those of s
abbrev pub slots_meet : Slot → Slot → Bool
slots_meet s t = is_used t && (nat_lt s.offset (end_of t) && nat_lt t.offset (end_of s))

-- whether a slot has this package
abbrev pub has_number : ℕ → Slot → Bool
has_number n s = is_used s && (s.number == n)

-- the slot of a number
abbrev pub slot_with : ℕ → List Slot → Option Slot
slot_with n slots = find (has_number n) slots

-- the greatest that is said of a used slot, and 0 where none is used
abbrev pub greatest : (Slot → ℕ) → List Slot → ℕ
greatest said [] = 0
greatest said (s ∷ slots) = max (if is_used s then said s else 0) (greatest said slots)

-- a number that a package can have
abbrev pub IsPackageNumber : ℕ → Type 0
IsPackageNumber n = (0 < n) × (n < 4294967295)
