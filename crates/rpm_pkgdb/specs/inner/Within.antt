-- What ends by a limit.
use Rattle.std.specs.Prelude.{◌≡◌, ℕ, ◌+◌, ◌*◌, ◌≤◌, List, length, true}
use Rattle.rpm_outside.specs.Files.{Units}
use Rattle.rpm_pkgdb.specs.declared.slot.Slot.{Slot}
use Rattle.rpm_pkgdb.specs.declared.added_page.Move.{Move}
use Rattle.rpm_pkgdb.specs.Slots.{slot_at, is_used, end_of}
use Rattle.rpm_pkgdb.specs.Store.{Store}

-- a file that ended by it still does
abbrev pub KeepsEnd : ℕ → Units → Units → Type 0
KeepsEnd limit old new = length old ≤ limit → length new ≤ limit

-- the slot pages and all used blocks end by it
pub record AreBlocksWithin (limit : ℕ) (value : Store) : Type 0 where
  pub pages : 256 * value.pages ≤ limit
  pub used : (k : ℕ) → is_used (slot_at value.slots k) ≡ true → end_of (slot_at value.slots k) ≤ limit

-- the slot of a move and its blocks, where they are and where they go, end by it
pub record MovesWithin (limit : ℕ) (slots : List Slot) (m : Move) : Type 0 where
  pub place : m.place + 3 ≤ limit
  pub from : end_of (slot_at slots m.place) ≤ limit
  pub to : m.to + (slot_at slots m.place).count ≤ limit
