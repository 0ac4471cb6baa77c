-- Where a blob is to go.
use Rattle.std.specs.Prelude.{◌≡◌, ◌⊎◌, ℕ, ◌+◌, ◌*◌, ◌^◌, ◌<◌, ◌≤◌, List, length, true, false}
use Rattle.rpm_pkgdb.specs.declared.slot.Slot.{Slot}
use Rattle.rpm_pkgdb.specs.declared.plan.Target.{Target}
use Rattle.rpm_pkgdb.specs.Slots.{slot_at, is_used, end_of, has_number, IsPackageNumber}
use Rattle.rpm_pkgdb.specs.Store.{Store, next_number}
use Rattle.rpm_pkgdb.specs.Blobs.{blocks_for}

-- the first slot that isn't used
pub record IsFirstFree (slots : List Slot) (place : ℕ) : Type 0 where
  pub below : place < length slots
  pub unused : is_used (slot_at slots place) ≡ false
  pub first : (k : ℕ) → k < place → is_used (slot_at slots k) ≡ true

-- each slot is used
abbrev pub AreAllUsed : List Slot → Type 0
AreAllUsed slots = (k : ℕ) → k < length slots → is_used (slot_at slots k) ≡ true

-- a count of blocks fits at a block when it ends by the limit, and none of them is a used slot's
pub record FitsSlots (slots : List Slot) (count start : ℕ) : Type 0 where
  pub ends : start + count ≤ 2 ^ 28
  pub apart : (k : ℕ) → is_used (slot_at slots k) ≡ true → (start + count ≤ (slot_at slots k).offset)
      ⊎ (end_of (slot_at slots k) ≤ start)

-- the least block from one on at which so many fit, and None where they fit nowhere
pub record IsLeast (slots : List Slot) (count from start : ℕ) : Type 0 where
  pub from_on : from ≤ start
  pub fits : FitsSlots slots count start
  pub least : (block : ℕ) → from ≤ block → block < start → ¬ FitsSlots slots count block

-- a count of blocks has room at no place from a block on
abbrev pub FitsNowhere : List Slot → ℕ → ℕ → Type 0
FitsNowhere slots count from = (block : ℕ) → from ≤ block → ¬ FitsSlots slots count block

-- number, slot and blocks of a blob, as these slots and this number field ask for
pub record IsTarget (value : Store) (target : Target) : Type 0 where
  pub new : target.is_new ≡ true → (target.number ≡ next_number value) × IsFirstFree value.slots target.place
  pub held : target.is_new ≡ false → has_number target.number (slot_at value.slots target.place) ≡ true
  pub number : IsPackageNumber target.number
  pub below : target.place < length value.slots
  pub few : target.length ≤ 68157432
  pub start : IsLeast value.slots (blocks_for target.length) (256 * value.pages) target.start
