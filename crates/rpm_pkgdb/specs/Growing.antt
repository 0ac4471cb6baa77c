-- A slot page more: the used ranges that begin before its end move after it, one after the other, and its slots are
-- free.
use Rattle.std.specs.Prelude.{◌≡◌, ◌≢◌, ℕ, ◌+◌, ◌*◌, ◌<◌, ◌≤◌, List, [], ◌∷◌, ◌++◌, slice_set, replicate, true, Bool}
use Rattle.std.specs.Prelude.{Option, Some, None}
use Rattle.std.specs.List.{sum_by}
use Rattle.rpm_pkgdb.specs.declared.slot.Slot.{Slot}
use Rattle.rpm_pkgdb.specs.declared.added_page.Move.{Move}
use Rattle.rpm_pkgdb.specs.Slots.{slot_at, is_used, free}
use Rattle.rpm_pkgdb.specs.Store.{Store}
use Rattle.rpm_pkgdb.specs.Plans.{IsLeast, AreAllUsed}

-- the slots after a move, where a slot's blocks stand elsewhere
abbrev pub after_move : List Slot → Move → List Slot
after_move slots m = slice_set slots m.place (record (slot_at slots m.place) { offset = m.to })

-- the slots after a list of moves
abbrev pub after_moves : List Slot → List Move → List Slot
after_moves slots [] = slots
after_moves slots (m ∷ moves) = after_moves (after_move slots m) moves

-- the move of the first of the used ranges, which begins before this block, to the least free place from the block on
pub record IsNextMove (slots : List Slot) (end : ℕ) (m : Move) : Type 0 where
  pub used : is_used (slot_at slots m.place) ≡ true
  pub before : (slot_at slots m.place).offset < end
  pub first : (j : ℕ) → j ≢ m.place → is_used (slot_at slots j) ≡ true
      → (slot_at slots m.place).offset < (slot_at slots j).offset
  pub least : IsLeast slots (slot_at slots m.place).count end m.to

-- each of these moves is the next one after those before it
abbrev pub AreMoves : List Slot → ℕ → List Move → Type 0
AreMoves slots end [] = Unit {0}
AreMoves slots end (m ∷ moves) = IsNextMove slots end m × AreMoves (after_move slots m) end moves

-- all used ranges begin at this block or after it
abbrev pub AreBehind : List Slot → ℕ → Type 0
AreBehind slots end = (j : ℕ) → is_used (slot_at slots j) ≡ true → end ≤ (slot_at slots j).offset

-- the first block after the slot pages and one more
abbrev pub next_end : Store → ℕ
next_end value = 256 * (value.pages + 1)

-- no slot is free, and these are all moves that a page asks for
pub record CanAdd (value : Store) (moves : List Move) : Type 0 where
  pub all_used : AreAllUsed value.slots
  pub are : AreMoves value.slots (next_end value) moves
  pub behind : AreBehind (after_moves value.slots moves) (next_end value)

-- a page is added exactly where a new number finds no free slot, and then these are all moves
abbrev pub NeedsPage : Store → Bool → Option (List Move) → Type 0
NeedsPage value is_new None = is_new ≡ true → ¬ AreAllUsed value.slots
NeedsPage value is_new (Some moves) = (is_new ≡ true) × CanAdd value moves

-- the value with a slot page more, whose slots are free, once these moves are made, if there are any
abbrev pub grown : Option (List Move) → Store → Store
grown moves value = record value {
  pages = elim moves [ None ↦ value.pages | Some made ↦ value.pages + 1 ];
  slots = elim moves [ None ↦ value.slots | Some made ↦ after_moves value.slots made ++ replicate 256 free ];
}

-- the bytes of the blocks that are moved
abbrev pub moving_cost : List Slot → Option (List Move) → ℕ
moving_cost slots None = 0
moving_cost slots (Some moves) = 16 * sum_by (λ m. (slot_at slots m.place).count) moves
