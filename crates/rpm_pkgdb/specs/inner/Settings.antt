-- A slot that is set at a place, with its blocks.
use Rattle.std.specs.Prelude.{◌≡◌, ◌≢◌, ◌⊎◌, ℕ, ◌*◌, ◌<◌, ◌≤◌, length, true, slice_set, take, drop}
use Rattle.rpm_outside.specs.Files.{Units, unit_at}
use Rattle.rpm_pkgdb.specs.declared.slot.Slot.{Slot}
use Rattle.rpm_pkgdb.specs.Slots.{slot_at, is_used, end_of}
use Rattle.rpm_pkgdb.specs.Store.{Store, KeepsStore}
use Rattle.rpm_pkgdb.specs.inner.Clear.{HasUnits}
use Rattle.rpm_pkgdb.specs.Plans.{FitsSlots}
use Rattle.rpm_pkgdb.specs.laws.Parts.{moved_slot}
use Rattle.rpm_pkgdb.specs.Quiet.{RepresentsStore, HasSlot}

-- a slot may be set at a place: its number is no other slot's, and its blocks are free
pub record CanSet (value : Store) (place : ℕ) (s : Slot) : Type 0 where
  pub made : 1 ≤ value.pages
  pub below : place < length value.slots
  pub number : (0 < s.number) × (s.number ≢ 4294967295)
  pub others : (j : ℕ) → j ≢ place → is_used (slot_at value.slots j) ≡ true → s.number ≢ (slot_at value.slots j).number
  pub behind : 256 * value.pages ≤ s.offset
  pub some : 1 ≤ s.count
  pub fits : FitsSlots value.slots s.count s.offset

abbrev pub with_slot : ℕ → Slot → Store → Store
with_slot place s value = record value { slots = slice_set value.slots place s }

-- an image says the value with the slot, whose blocks are these; the other slots' blocks are as in a file from before
pub record RepresentsSlot (value : Store) (place : ℕ) (s : Slot) (us file image : Units) : Type 0 where
  pub keeps : KeepsStore image (with_slot place s value)
  pub others : (j i : ℕ) → j ≢ place → is_used (slot_at value.slots j) ≡ true → (slot_at value.slots j).offset ≤ i
      → i < end_of (slot_at value.slots j)
      → unit_at image i ≡ unit_at file i
  pub holds : HasUnits image s.offset us

-- a used slot whose blocks may be moved there
pub record CanMove (value : Store) (place : ℕ) (old : Slot) (to : ℕ) : Type 0 where
  pub slot : HasSlot value place old
  pub behind : 256 * value.pages ≤ to
  pub fits : FitsSlots value.slots old.count to

-- the blocks of a slot in a file
abbrev pub blocks_of : Slot → Units → Units
blocks_of s file = take s.count (drop s.offset file)

-- an image represents the value from before, or it with the blocks moved
abbrev pub WhileMoved : Store → ℕ → Slot → ℕ → Units → Units → Type 0
WhileMoved value place old to file image = RepresentsStore value file image
    ⊎ RepresentsSlot value place (moved_slot old to) (blocks_of old file) file image

-- the file didn't get shorter
abbrev pub NoShorter : Units → Units → Type 0
NoShorter old new = length old ≤ length new
