-- Slots in the order of the file, with what shows whether two of them meet.
use Rattle.std.specs.Prelude.{◌≡◌, ℕ, ◌*◌, ◌^◌, ◌≤◌, List, length, Bool, true, Option, Some, None, vec_capacity}
use Rattle.rpm_pkgdb.specs.declared.keys.Order.TheVariants.{Number}
use Rattle.rpm_pkgdb.specs.declared.reading.Rising.{Rising}
use Rattle.rpm_pkgdb.specs.declared.slot.Slot.{Slot}
use Rattle.rpm_pkgdb.specs.Pairs.{Pairs}
use Rattle.rpm_pkgdb.specs.inner.Keeping.{AreUsedTo}
use Rattle.rpm_pkgdb.specs.inner.Keys.{ArePairs, AreKeysRising, AreRisingTo}

-- the place of the first free slot, and the end where there is none
abbrev pub free_from : Option ℕ → List Slot → ℕ
free_from None slots = length slots
free_from (Some place) slots = place

-- the pairs are those of the slots, which rise where it is said, up to this number and this block
pub record PairsInOrder (slots : List Slot) (pairs : Pairs) (free : Option ℕ) (numbers_rise blocks_rise : Bool)
    (number block : ℕ) : Type 0 where
  pub pairs_are : ArePairs Number slots (length slots) pairs
  pub taken : AreUsedTo slots (free_from free slots)
  pub numbers : numbers_rise ≡ true → AreKeysRising Number slots pairs (length pairs) number
  pub blocks : blocks_rise ≡ true → AreRisingTo slots (length slots) block

abbrev pub IsInOrder : Rising → Type 0
IsInOrder r = PairsInOrder r.slots.items r.pairs.items r.free r.numbers_rise r.blocks_rise r.number r.block

-- a count of slot pages is one that a store can have
pub record ArePages (pages : ℕ) : Type 0 where
  pub some : 1 ≤ pages
  pub below : 256 * pages ≤ 2 ^ 28

-- there is room for so many slots in all, and the next one's blocks are asked to be behind so many pages
pub record Awaits (pages count : ℕ) (r : Rising) : Type 0 where
  pub slots : count ≤ vec_capacity r.slots
  pub pairs : count ≤ vec_capacity r.pairs
  pub number : 1 ≤ r.number
  pub block : 256 * pages ≤ r.block
