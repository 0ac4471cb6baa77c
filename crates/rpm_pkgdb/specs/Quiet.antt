-- A store of which each crash leaves the same.
use Rattle.std.specs.Prelude.{◌≡◌, ◌⊎◌, ℕ, ◌<◌, ◌≤◌, List, length, true, slice_set, Option, Ok}
use Rattle.std.specs.Ordering.{nat_cmp}
use Rattle.std.specs.FinMap as finite
use Rattle.rpm_outside.specs.Files.{Units, Files, unit_at}
use Rattle.rpm_pkgdb.specs.Words.{word}
use Rattle.rpm_pkgdb.specs.Undamaged.{IsSlotUnit}
use Rattle.rpm_pkgdb.specs.declared.slot.Slot.{Slot}
use Rattle.rpm_pkgdb.specs.Slots.{slot_at, is_used, end_of, free}
use Rattle.rpm_pkgdb.specs.Store.{Store, store, KeepsStore}
use Rattle.rpm_pkgdb.specs.Blobs.{blobs}
use Rattle.rpm_pkgdb.specs.Framing.{next_unit}

-- numbers and their blobs, where None is a broken framing
abbrev pub BlobMap : Type 0
BlobMap = finite.FinMap nat_cmp (Option (List ℕ))

-- the blocks of these slots that are used have the same bytes
abbrev pub SameBlocks : List Slot → Units → Units → Type 0
SameBlocks slots old new =
    (k i : ℕ) → is_used (slot_at slots k) ≡ true → (slot_at slots k).offset ≤ i → i < end_of (slot_at slots k)
    → unit_at new i ≡ unit_at old i

-- an image says this store, and has the bytes of a file in the used blocks
pub record RepresentsStore (value : Store) (file image : Units) : Type 0 where
  pub keeps : KeepsStore image value
  pub blocks : SameBlocks value.slots file image

-- each image stands as the file does
abbrev pub IsQuiet : Store → Files → (Files → Type 0) → Type 0
IsQuiet value files images = (image : Files) → images image → RepresentsStore value files.pkg image.pkg

-- an image that is undamaged, with this generation and number field, and represents these blobs
pub record Represents (generation field : ℕ) (map : BlobMap) (image : Units) : Type 0 where
  pub value : Store
  pub undamaged : store image ≡ Ok value
  pub generation_is : value.generation ≡ generation
  pub field_is : value.field ≡ field
  pub blobs_are : blobs image value ≡ map

-- an image represents one of two stores
abbrev pub StoreBeforeOrAfter : Store → Store → Units → Units → Type 0
StoreBeforeOrAfter before after file image = RepresentsStore before file image ⊎ RepresentsStore after file image

-- a used slot at this place of a store that is made
pub record HasSlot (value : Store) (place : ℕ) (s : Slot) : Type 0 where
  pub made : 1 ≤ value.pages
  pub below : place < length value.slots
  pub is : slot_at value.slots place ≡ s
  pub used : is_used s ≡ true

-- the store with the slot at this place free
abbrev pub with_free : ℕ → Store → Store
with_free place value = record value { slots = slice_set value.slots place free }

-- anything may have changed
abbrev pub Anything : Units → Units → Type 0
Anything old new = Unit {0}

-- all of the first page but unit 0, with the next number 1 and no used slot
pub record IsFirstPage (file : Units) : Type 0 where
  pub long : 256 ≤ length file
  pub next : unit_at file 1 ≡ next_unit 1
  pub field : word 0 (unit_at file 1) ≡ 1
  pub slots : (i : ℕ) → 2 ≤ i → i < 256 → IsSlotUnit (unit_at file i) free
