-- What makes a store damaged: the first damage by place, and of one slot the first reason in this order.
use Rattle.std.specs.Prelude.{ℕ, ◌+◌, ◌-◌, ◌*◌, ◌^◌, List, [], ◌∷◌, ◌++◌, length, take, drop, not, ◌||◌, ◌==◌}
use Rattle.std.specs.Prelude.{nat_lt, if◌then◌else◌, Option, Some, None, codes}
use Rattle.std.specs.List.{list_any}
use Rattle.std.specs.Option.{option_map, option_or}
use Rattle.rpm_outside.specs.Files.{Units}
use Rattle.rpm_pkgdb.specs.declared.slot.Slot.{Slot}
use Rattle.rpm_pkgdb.specs.declared.slot.Damage.{Damage}
use Rattle.rpm_pkgdb.specs.declared.slot.Reason.{Reason}
use Rattle.rpm_pkgdb.specs.declared.slot.Reason.TheVariants.{BadMagic, BadVersion, BadPages, BadSlot, BadNumber}
use Rattle.rpm_pkgdb.specs.declared.slot.Reason.TheVariants.{BadRange, SameNumber, Overlap}
use Rattle.rpm_pkgdb.specs.Words.{word, begins_with_word}
use Rattle.rpm_pkgdb.specs.Slots.{slot_of, is_used, end_of, slots_meet, has_number}

-- a reason of damage is about this byte of its unit
abbrev pub place_in : Reason → ℕ
place_in BadMagic = 0
place_in BadSlot = 0
place_in BadRange = 8
place_in Overlap = 8
place_in BadPages = 12
place_in others = 4

-- a reason with the byte that it stands at
abbrev pub damage_at : ℕ → Reason → Damage
damage_at unit reason = record { reason = reason; offset = 16 * unit + place_in reason }

-- ---- unit 0

-- unit 0 of a file of so many units: a count of pages is bad when it is none, past the file, or past the limit
unfoldable pub head_reason : ℕ → List ℕ → Option Reason
head_reason units head =
    if not (begins_with_word (codes "RpmP") head) then Some BadMagic
    else if not (word 1 head == 0) then Some BadVersion
    else if word 3 head == 0 || nat_lt units (256 * word 3 head) || nat_lt (2 ^ 28) (256 * word 3 head)
    then Some BadPages
    else None

-- ---- the slots

-- a used slot by itself, in a file of so many pages and units: two numbers are no package's, and a range is bad when
-- its blocks begin in the slot pages, are none, or end past the file or past the limit
abbrev pub used_reason : ℕ → ℕ → Slot → Option Reason
used_reason pages units s =
    if s.number == 0 || s.number == 4294967295 then Some BadNumber
    else if nat_lt s.offset (256 * pages) || s.count == 0 || nat_lt units (end_of s) || nat_lt (2 ^ 28) (end_of s)
    then Some BadRange
    else None

-- what is wrong with a slot by itself
unfoldable pub own_reason : ℕ → ℕ → List ℕ → Option Reason
own_reason pages units unit =
    if not (begins_with_word (codes "Slot") unit) then Some BadSlot
    else if is_used (slot_of unit) then used_reason pages units (slot_of unit)
    else None

-- a slot beside the earlier ones
unfoldable pub shared_reason : List Slot → Slot → Option Reason
shared_reason earlier s =
    if not (is_used s) then None
    else if list_any (has_number s.number) earlier then Some SameNumber
    else if list_any (slots_meet s) earlier then Some Overlap
    else None

-- a slot's unit, after these earlier slots
abbrev pub slot_fault : ℕ → ℕ → List Slot → List ℕ → Option Damage
slot_fault pages units earlier unit = option_map (damage_at (2 + length earlier))
    (option_or (own_reason pages units unit) (shared_reason earlier (slot_of unit)))

-- the first fault of slots' units that follow these earlier slots
abbrev pub first_fault : ℕ → ℕ → List Slot → Units → Option Damage
first_fault pages units earlier [] = None
first_fault pages units earlier (unit ∷ left) =
    option_or (slot_fault pages units earlier unit) (first_fault pages units (earlier ++ slot_of unit ∷ []) left)

-- the units of the slots
unfoldable pub slot_units : ℕ → Units → Units
slot_units pages file = take (256 * pages - 2) (drop 2 file)

-- the first damage of the slot table
unfoldable pub table_fault : ℕ → ℕ → Units → Option Damage
table_fault pages units slots = first_fault pages units [] slots
