-- What was read of a table of slots.
use Rattle.std.specs.Prelude.{◌≡◌, ℕ, ◌+◌, ◌<◌, List, [], ◌∷◌, ◌++◌, length, take, Option, Some, None}
use Rattle.std.specs.Option.{option_map, option_or}
use Rattle.rpm_outside.specs.Files.{Units, unit_at}
use Rattle.rpm_pkgdb.specs.declared.slot.Slot.{Slot}
use Rattle.rpm_pkgdb.specs.declared.slot.Reason.{Reason}
use Rattle.rpm_pkgdb.specs.declared.slot.Damage.{Damage}
use Rattle.rpm_pkgdb.specs.declared.reading.Reading.{Reading}
use Rattle.rpm_pkgdb.specs.Slots.{slots_in}
use Rattle.rpm_pkgdb.specs.Damages.{damage_at, own_reason}
use Rattle.rpm_pkgdb.specs.inner.Tables.{AreOwn, AreNumbered}
use Rattle.rpm_pkgdb.specs.inner.Meetings.{first_shared_fault}

-- a table gains a slot if nothing is wrong with it
abbrev pub slots_with : List Slot → Option Reason → Slot → List Slot
slots_with slots None s = slots ++ s ∷ []
slots_with slots (Some reason) s = slots

-- the end of these units comes after so many, or the first that isn't right by itself
abbrev pub EndOfUnits : ℕ → ℕ → Units → ℕ → Option Reason → Type 0
EndOfUnits pages units us count None = count ≡ length us
EndOfUnits pages units us count (Some reason) = (count < length us)
    × (own_reason pages units (unit_at us count) ≡ Some reason)

-- the slots of these units were added
pub record SlotsRead (pages units : ℕ) (us : Units) (old : List Slot) (new : Reading) : Type 0 where
  pub count : ℕ
  pub slots_are : new.rising.slots.items ≡ old ++ slots_in (take count us)
  pub own : AreOwn pages units us count
  pub ends : EndOfUnits pages units us count new.reason

-- each slot is right by itself, and they are a table's first, where the disk tells
pub record AreRead (Told : Type 0) (pages units : ℕ) (whole : Units) (slots : List Slot) : Type 0 where
  pub us : Units
  pub slots_are : slots ≡ slots_in us
  pub own : AreOwn pages units us (length us)
  pub numbered : AreNumbered slots
  pub told : Told → us ≡ take (length us) whole

-- a reading got to the slots that were asked for, or the next one isn't right by itself
abbrev pub IsAll : Type 0 → ℕ → ℕ → Units → ℕ → ℕ → Option Reason → Type 0
IsAll Told pages units whole asked count None = count ≡ asked
IsAll Told pages units whole asked count (Some reason) =
    (count < asked) × (Told → (count < length whole) × (own_reason pages units (unit_at whole count) ≡ Some reason))

-- a reading asked for so many of a table's first slots
pub record AreSlotsRead (Told : Type 0) (pages units : ℕ) (whole : Units) (asked : ℕ) (reading : Reading) : Type 0 where
  pub slots : AreRead Told pages units whole reading.rising.slots.items
  pub all : IsAll Told pages units whole asked (length reading.rising.slots.items) reading.reason

-- the first slot that meets an earlier one, or else the one that isn't right by itself
abbrev pub fault_of : Reading → Option Damage
fault_of r = option_or (first_shared_fault [] r.rising.slots.items)
    (option_map (damage_at (2 + length r.rising.slots.items)) r.reason)
