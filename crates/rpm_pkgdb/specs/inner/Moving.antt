-- What a slot that is set free, moved blocks and a slot page more make of each value that the file may say.
use Rattle.std.specs.Prelude.{◌≡◌, ℕ, ◌+◌, ◌*◌, ◌<◌, ◌≤◌, List, length, Option, None}
use Rattle.rpm_outside.specs.declared.disk.Disk as disk
use Rattle.rpm_outside.specs.Files.{unit_at, blank}
use Rattle.rpm_pkgdb.specs.declared.added_page.Move.{Move}
use Rattle.rpm_pkgdb.specs.declared.slot.Slot.{Slot}
use Rattle.rpm_pkgdb.specs.Blobs.{blobs}
use Rattle.rpm_pkgdb.specs.Frame.{pkg, Quiet}
use Rattle.rpm_pkgdb.specs.Freed.{AreFreed, KeepsBlank}
use Rattle.rpm_pkgdb.specs.Growing.{grown, next_end}
use Rattle.rpm_pkgdb.specs.laws.Parts.{moved_slot}
use Rattle.rpm_pkgdb.specs.Quiet.{HasSlot, RepresentsStore, with_free}
use Rattle.rpm_pkgdb.specs.Slots.{end_of}
use Rattle.rpm_pkgdb.specs.Stays.{AllStay}
use Rattle.rpm_pkgdb.specs.Store.{Store, KeepsStore}
use Rattle.rpm_pkgdb.specs.inner.Grows.{CanGrow, with_page}
use Rattle.rpm_pkgdb.specs.inner.MoveLists.{AreMovesOf, move_at, with_moves}
use Rattle.rpm_pkgdb.specs.inner.Settings.{CanMove, RepresentsSlot, blocks_of, with_slot}
use Rattle.rpm_pkgdb.specs.inner.Within.{KeepsEnd, AreBlocksWithin, MovesWithin}

-- a made value of these slots, and the moves that a page more asks for
pub record CanMoveAll (slots : List Slot) (moves : List Move) (value : Store) : Type 0 where
  pub some : 1 ≤ value.pages
  pub same : value.slots ≡ slots
  pub are : AreMovesOf value moves

-- a value of this generation and so many pages that can grow by one
pub record CanGrowFrom (generation pages : ℕ) (value : Store) : Type 0 where
  pub can : CanGrow value
  pub generation_is : generation ≡ value.generation
  pub pages_are : pages ≡ value.pages

module _ {D : Type 0} (d : disk.Ghosts D) where
  -- the slot at a place was set free
  pub record IsSlotFreed (old new : D) (place : ℕ) (s : Slot) : Type 0 where
    pub stands : (value : Store) → HasSlot value place s → KeepsStore (pkg d old) value
        → RepresentsStore (with_free place value) (pkg d old) (pkg d new)
    pub quiet : (value : Store) → HasSlot value place s → KeepsStore (pkg d old) value
        → Quiet d new (with_free place value)
    pub zeros : (i : ℕ) → s.offset ≤ i → i < end_of s → unit_at (pkg d new) i ≡ blank
    pub blanks : KeepsBlank (place + 3) 0 0 (pkg d old) (pkg d new)
    pub next : 2 ≤ s.offset → unit_at (pkg d new) 1 ≡ unit_at (pkg d old) 1
    pub reach : (limit : ℕ) → place + 3 ≤ limit → end_of s ≤ limit
        → KeepsEnd limit (pkg d old) (pkg d new)

  -- a slot's blocks were moved, and the old ones from a block on are zeros
  pub record AreBlocksMoved (old new : D) (place : ℕ) (s : Slot) (to zeros_from : ℕ)
      : Type 0 where
    pub stands : (value : Store) → CanMove value place s to → KeepsStore (pkg d old) value
        → RepresentsSlot value place (moved_slot s to) (blocks_of s (pkg d old)) (pkg d old) (pkg d new)
    pub quiet : (value : Store) → CanMove value place s to → KeepsStore (pkg d old) value
        → Quiet d new (with_slot place (moved_slot s to) value)
    pub zeros : (i : ℕ) → s.offset ≤ i → zeros_from ≤ i → i < end_of s
        → unit_at (pkg d new) i ≡ blank
    pub blanks : KeepsBlank (place + 3) to s.count (pkg d old) (pkg d new)
    pub reach : (limit : ℕ) → place + 3 ≤ limit → end_of s ≤ limit → to + s.count ≤ limit
        → KeepsEnd limit (pkg d old) (pkg d new)

  -- a store made the first of some moves, and these are done
  pub record AreMoved (old new : D) (slots : List Slot) (moves done : List Move)
      (zeros_from : ℕ) : Type 0 where
    pub keeps : (value : Store) → CanMoveAll slots moves value → KeepsStore (pkg d old) value
        → KeepsStore (pkg d new) (with_moves value done)
    pub blobs_are : (value : Store) → CanMoveAll slots moves value → KeepsStore (pkg d old) value
        → blobs (pkg d new) (with_moves value done) ≡ blobs (pkg d old) value
    pub others : (value : Store) → CanMoveAll slots moves value → KeepsStore (pkg d old) value
        → AllStay value (pkg d old) (with_moves value done) (pkg d new)
    pub zeros : (value : Store) → CanMoveAll slots moves value → KeepsStore (pkg d old) value
        → zeros_from ≡ next_end value
        → AreFreed (next_end value) value.slots (pkg d old) (with_moves value done).slots
        (pkg d new)
    pub quiet : (value : Store) → CanMoveAll slots moves value → Quiet d old value
        → Quiet d new (with_moves value done)
    pub reach : (limit : ℕ)
        → ((i : ℕ) → i < length moves → MovesWithin limit slots (move_at moves i))
        → KeepsEnd limit (pkg d old) (pkg d new)

  -- a page of free slots was added
  pub record IsPageAdded (old new : D) (generation pages : ℕ) : Type 0 where
    pub stands : (value : Store) → CanGrowFrom generation pages value → KeepsStore (pkg d old) value
        → RepresentsStore (with_page value) (pkg d old) (pkg d new)
    pub quiet : (value : Store) → CanGrowFrom generation pages value → KeepsStore (pkg d old) value
        → Quiet d new (with_page value)
    pub blanks : KeepsBlank (256 * (pages + 1)) 0 0 (pkg d old) (pkg d new)
    pub reach : (limit : ℕ) → 256 * (pages + 1) ≤ limit → KeepsEnd limit (pkg d old) (pkg d new)

  -- a value has a page more once these moves were made, or none was added
  pub record IsGrown (old new : D) (value : Store) (moves : Option (List Move)) : Type 0 where
    pub kept : KeepsStore (pkg d new) (grown moves value)
    pub quiet : Quiet d old value → Quiet d new (grown moves value)
    pub blobs_are : blobs (pkg d new) (grown moves value) ≡ blobs (pkg d old) value
    pub others : AllStay value (pkg d old) (grown moves value) (pkg d new)
    pub freed : AreFreed (256 * (grown moves value).pages) value.slots (pkg d old)
        (grown moves value).slots (pkg d new)
    pub stays : moves ≡ None → pkg d new ≡ pkg d old
    pub reach : (limit : ℕ) → AreBlocksWithin limit (grown moves value)
        → KeepsEnd limit (pkg d old) (pkg d new)
