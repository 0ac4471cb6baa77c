-- Several moves, one after the other.
use Rattle.std.specs.Prelude.{◌⊎◌, ℕ, ◌+◌, ◌^◌, ◌<◌, ◌≤◌, List, length, slice_index_or, Option, Some, None}
use Rattle.rpm_pkgdb.specs.declared.slot.Slot.{Slot}
use Rattle.rpm_pkgdb.specs.declared.added_page.Move.{Move}
use Rattle.rpm_pkgdb.specs.Slots.{slot_at, end_of}
use Rattle.rpm_pkgdb.specs.Store.{Store}
use Rattle.rpm_pkgdb.specs.Growing.{after_move, after_moves, IsNextMove, AreMoves, CanAdd, next_end}

abbrev pub no_move : Move
no_move = record { place = 0; to = 0 }

abbrev pub move_at : List Move → ℕ → Move
move_at moves i = slice_index_or moves i no_move

-- the value after a move
abbrev pub with_move : Store → Move → Store
with_move value m = record value { slots = after_move value.slots m }

-- a store after several moves
abbrev pub with_moves : Store → List Move → Store
with_moves value moves = record value { slots = after_moves value.slots moves }

-- moves that a page more asks this value for
abbrev pub AreMovesOf : Store → List Move → Type 0
AreMovesOf value moves = AreMoves value.slots (next_end value) moves

abbrev pub IsNextOf : Store → Move → Type 0
IsNextOf value m = IsNextMove value.slots (next_end value) m

-- a move that needs no more than a slot and room, whether the disk tells or not
pub record IsMovable (slots : List Slot) (m : Move) : Type 0 where
  pub below : m.place < length slots
  pub place : m.place + 3 ≤ 2 ^ 28
  pub end : end_of (slot_at slots m.place) ≤ 2 ^ 28
  pub room : m.to + (slot_at slots m.place).count ≤ 2 ^ 28
  pub apart : (m.to + (slot_at slots m.place).count ≤ (slot_at slots m.place).offset)
      ⊎ (end_of (slot_at slots m.place) ≤ m.to)

-- a value may grow by a page with these moves, or has none to add
abbrev pub CanGrowBy : Store → Option (List Move) → Type 0
CanGrowBy value None = Unit {0}
CanGrowBy value (Some moves) = CanAdd value moves
