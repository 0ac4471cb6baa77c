-- A store without damage, slot by slot and pair by pair.
use Rattle.std.specs.Prelude.{◌≡◌, ◌≢◌, ◌⊎◌, ℕ, ◌+◌, ◌-◌, ◌*◌, ◌^◌, ◌<◌, ◌≤◌, List, length, true, codes}
use Rattle.rpm_outside.specs.Files.{Units, unit_at}
use Rattle.rpm_pkgdb.specs.declared.slot.Slot.{Slot}
use Rattle.rpm_pkgdb.specs.Words.{word, begins_with_word}
use Rattle.rpm_pkgdb.specs.Slots.{slot_of, slot_at, is_used, end_of}
use Rattle.rpm_pkgdb.specs.Store.{Store}

-- the blocks of a used slot lie after the pages and inside the file, and its number can be that of a package
pub record IsPlaced (pages units : ℕ) (s : Slot) : Type 0 where
  pub number : 0 < s.number
  pub few : s.number ≢ 4294967295
  pub behind : 256 * pages ≤ s.offset
  pub some : 0 < s.count
  pub inside : end_of s ≤ units
  pub below : end_of s ≤ 2 ^ 28

-- two slots that may both be used: their numbers differ, and no block is in both
pub record AreSlotsApart (s t : Slot) : Type 0 where
  pub numbers : s.number ≢ t.number
  pub blocks : (end_of s ≤ t.offset) ⊎ (end_of t ≤ s.offset)

-- a file's used slots are each placed within its units, and any two are apart
pub record AreSound (pages units : ℕ) (slots : List Slot) : Type 0 where
  pub placed : (k : ℕ) → is_used (slot_at slots k) ≡ true → IsPlaced pages units (slot_at slots k)
  pub apart : (j k : ℕ) → j ≢ k → is_used (slot_at slots j) ≡ true → is_used (slot_at slots k) ≡ true
      → AreSlotsApart (slot_at slots j) (slot_at slots k)

-- a unit that says this slot
pub record IsSlotUnit (unit : List ℕ) (s : Slot) : Type 0 where
  pub magic : begins_with_word (codes "Slot") unit ≡ true
  pub says : slot_of unit ≡ s

-- a count of slot pages is at least one, and lies within the file's units and below the limit
pub record IsLawfulCount (units pages : ℕ) : Type 0 where
  pub some : 1 ≤ pages
  pub inside : 256 * pages ≤ units
  pub below : 256 * pages ≤ 2 ^ 28

-- a unit 0 that says this generation and so many pages
pub record IsHeadUnit (unit : List ℕ) (generation pages : ℕ) : Type 0 where
  pub magic : begins_with_word (codes "RpmP") unit ≡ true
  pub version : word 1 unit ≡ 0
  pub generation_is : word 2 unit ≡ generation
  pub pages_are : word 3 unit ≡ pages

-- the units before the blobs say this store, which is made, and nothing is wrong with it
pub record IsMade (file : Units) (store : Store) : Type 0 where
  pub lawful : IsLawfulCount (length file) store.pages
  pub head : IsHeadUnit (unit_at file 0) store.generation store.pages
  pub field : word 0 (unit_at file 1) ≡ store.field
  pub count : length store.slots ≡ 256 * store.pages - 2
  pub each : (k : ℕ) → k < length store.slots → IsSlotUnit (unit_at file (2 + k)) (slot_at store.slots k)
  pub sound : AreSound store.pages (length file) store.slots
