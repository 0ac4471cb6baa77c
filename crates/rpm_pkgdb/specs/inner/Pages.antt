-- A slot page that is planned.
use Rattle.std.specs.Prelude.{◌≡◌, ℕ, ◌^◌, ◌<◌, ◌≤◌, List, length, true, Option, Some, None, Contains, slice_index_or}
use Rattle.rpm_pkgdb.specs.declared.slot.Slot.{Slot}
use Rattle.rpm_pkgdb.specs.declared.page_plan.Page.{Page}
use Rattle.rpm_pkgdb.specs.Slots.{slot_at, is_used}
use Rattle.rpm_pkgdb.specs.Undamaged.{AreSound}
use Rattle.rpm_pkgdb.specs.Growing.{after_moves, AreMoves, AreBehind}
use Rattle.rpm_pkgdb.specs.inner.Ranges.{AreRangesOf}

abbrev pub nth : List ℕ → ℕ → ℕ
nth places i = slice_index_or places i 0

-- the slot at this place has the first of the used ranges, and it begins before this block
pub record IsFirstBefore (slots : List Slot) (end place : ℕ) : Type 0 where
  pub below : place < length slots
  pub used : is_used (slot_at slots place) ≡ true
  pub before : (slot_at slots place).offset < end
  pub first : (j : ℕ) → is_used (slot_at slots j) ≡ true → (slot_at slots place).offset ≤ (slot_at slots j).offset

-- the slots are sound, and the ranges are theirs
pub record IsRanged (pages : ℕ) (page : Page) : Type 0 where
  pub some : 1 ≤ pages
  pub sound : AreSound pages (2 ^ 28) page.slots.items
  pub ranges : AreRangesOf page.used.ranges page.slots.items

-- the slots are those after the moves so far
pub record IsPlanning (slots : List Slot) (end : ℕ) (page : Page) : Type 0 where
  pub moves : AreMoves slots end page.moves.items
  pub slots_are : page.slots.items ≡ after_moves slots page.moves.items

-- all moves that a new page asks for are made
pub record AllMoved (slots : List Slot) (end : ℕ) (page : Page) : Type 0 where
  pub moves : AreMoves slots end page.moves.items
  pub slots_are : page.slots.items ≡ after_moves slots page.moves.items
  pub behind : AreBehind (after_moves slots page.moves.items) end

-- a place whose range begins at the least block so far, or none
abbrev pub IsHere : List Slot → ℕ → ℕ → Option ℕ → Type 0
IsHere slots end least None = least ≡ end
IsHere slots end least (Some p) = (p < length slots) × (is_used (slot_at slots p) ≡ true)
    × ((slot_at slots p).offset ≡ least) × (least < end)

-- a list of places has that of each used slot, among the first so many, whose blocks begin before a block
pub record HasPlacesSoFar (slots : List Slot) (end count : ℕ) (places : List ℕ) : Type 0 where
  pub below : (i : ℕ) → i < length places → nth places i < length slots
  pub all : (j : ℕ) → j < count → is_used (slot_at slots j) ≡ true → (slot_at slots j).offset < end → Contains places j

-- a list of places has that of each used slot whose blocks begin before a block
pub record HasPlacesBefore (slots : List Slot) (end : ℕ) (places : List ℕ) : Type 0 where
  pub below : (i : ℕ) → i < length places → nth places i < length slots
  pub all : (j : ℕ) → is_used (slot_at slots j) ≡ true → (slot_at slots j).offset < end → Contains places j

-- the first of the used ranges at the first so many of these places that begins before a block
pub record IsFirstSoFar (slots : List Slot) (places : List ℕ) (end count : ℕ) (first : Option ℕ)
    (least : ℕ) : Type 0 where
  pub no_more : least ≤ end
  pub low : (i : ℕ) → i < count → is_used (slot_at slots (nth places i)) ≡ true
      → least ≤ (slot_at slots (nth places i)).offset
  pub here : IsHere slots end least first
