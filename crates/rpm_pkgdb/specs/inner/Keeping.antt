-- What is true of the fields of a value.
use Rattle.std.specs.Prelude.{◌≡◌, ℕ, ◌-◌, ◌*◌, ◌^◌, ◌<◌, ◌≤◌, List, length, true, vec_capacity}
use Rattle.rpm_pkgdb.specs.declared.slot.Slot.{Slot}
use Rattle.rpm_pkgdb.specs.declared.store.PkgDb.TheInside.{Inside}
use Rattle.rpm_pkgdb.specs.inner.Ranges.{HasUsed}
use Rattle.rpm_pkgdb.specs.Pairs.{Pairs, find_in}
use Rattle.rpm_pkgdb.specs.Slots.{slot_at, is_used, IsPackageNumber}
use Rattle.rpm_pkgdb.specs.inner.Maps.{HasPlaces}
use Rattle.rpm_pkgdb.specs.Undamaged.{AreSound}

-- what a value keeps of its slots, whether the disk tells or not
pub record IsKept (numbers : Pairs) (pages : ℕ) (slots : List Slot) : Type 0 where
  pub places : HasPlaces (find_in numbers) slots
  pub numbered : (k : ℕ) → k < length slots → is_used (slot_at slots k) ≡ true
      → IsPackageNumber (slot_at slots k).number
  pub sound : AreSound pages (2 ^ 28) slots
  pub limit : 256 * pages ≤ 2 ^ 28
  pub count : length slots ≡ 256 * pages - 2

-- the slots before a place are used
abbrev pub AreUsedTo : List Slot → ℕ → Type 0
AreUsedTo slots place = (k : ℕ) → k < place → is_used (slot_at slots k) ≡ true

-- what is true of the fields of a value
pub record IsValueSound (s : Inside) : Type 0 where
  pub kept : IsKept s.numbers.pairs s.pages s.slots.items
  -- what making a database takes
  pub blank : s.pages ≡ 0 → 254 ≤ vec_capacity s.slots
  pub used : HasUsed s.used s.spare s.slots.items
  pub room : s.spare ≤ s.numbers.room
  pub one : s.spare ≤ 1
  pub taken : AreUsedTo s.slots.items s.free_from
