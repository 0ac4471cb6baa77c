-- Slots that are right by themselves.
use Rattle.std.specs.Prelude.{◌≡◌, ℕ, ◌^◌, ◌<◌, ◌≤◌, List, length, true, None}
use Rattle.rpm_outside.specs.Files.{Units, unit_at}
use Rattle.rpm_pkgdb.specs.declared.slot.Slot.{Slot}
use Rattle.rpm_pkgdb.specs.Slots.{slot_at, is_used, end_of, IsPackageNumber}
use Rattle.rpm_pkgdb.specs.declared.table.Table.{Table}
use Rattle.rpm_pkgdb.specs.Damages.{own_reason}
use Rattle.rpm_pkgdb.specs.Pairs.{find_in}
use Rattle.rpm_pkgdb.specs.inner.Keeping.{AreUsedTo}
use Rattle.rpm_pkgdb.specs.inner.Maps.{HasPlaces}

-- each of the first so many units is a slot that is right by itself
abbrev pub AreOwn : ℕ → ℕ → Units → ℕ → Type 0
AreOwn pages units us count = (k : ℕ) → k < count → own_reason pages units (unit_at us k) ≡ None

-- the number of each used slot can be that of a package
abbrev pub AreNumbered : List Slot → Type 0
AreNumbered slots = (k : ℕ) → k < length slots → is_used (slot_at slots k) ≡ true
    → IsPackageNumber (slot_at slots k).number

-- each used slot has blocks, which end by the limit
abbrev pub AreBounded : List Slot → Type 0
AreBounded slots = (k : ℕ) → is_used (slot_at slots k) ≡ true → (0 < (slot_at slots k).count)
    × (end_of (slot_at slots k) ≤ 2 ^ 28)

-- not too many slots, and each is right by itself
pub record AreRight (slots : List Slot) : Type 0 where
  pub few : length slots ≤ 2 ^ 28
  pub bounded : AreBounded slots
  pub numbered : AreNumbered slots

-- each used slot is found by its number, and the first free one is noted
pub record IsTableIndexed (t : Table) : Type 0 where
  pub places : HasPlaces (find_in t.numbers.pairs) t.slots.items
  pub taken : AreUsedTo t.slots.items t.free_from
