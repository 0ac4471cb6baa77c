-- The used ranges of a value's slots, where they were gathered.
use Rattle.std.specs.Prelude.{◌≡◌, ℕ, ◌+◌, ◌<◌, ◌≤◌, List, Contains, SomeIndex, Option, Some, None, true, false}
use Rattle.rpm_blocks.specs.declared.Range.{Range}
use Rattle.rpm_blocks.specs.Blocks.{Blocks, range, range_at, without, with_range, IsFree}
use Rattle.rpm_pkgdb.specs.declared.slot.Slot.{Slot}
use Rattle.rpm_pkgdb.specs.Slots.{slot_at, is_used}

-- the blocks of a slot
abbrev pub range_of_slot : Slot → Range
range_of_slot s = range s.offset s.count

-- a used slot that has these blocks
pub record UsedSlotOf (slots : List Slot) (x : Range) : Type 0 where
  pub at : ℕ
  pub used : is_used (slot_at slots at) ≡ true
  pub is : x ≡ range_of_slot (slot_at slots at)

-- the ranges are those of the used slots
pub record AreRangesOf (ranges : List Range) (slots : List Slot) : Type 0 where
  pub each : (k : ℕ) → is_used (slot_at slots k) ≡ true → Contains ranges (range_of_slot (slot_at slots k))
  pub only : (x : Range) → Contains ranges x → UsedSlotOf slots x

-- the ranges are those of the used ones of the first so many slots
pub record AreRangesTo (slots : List Slot) (count : ℕ) (ranges : List Range) : Type 0 where
  pub each : (k : ℕ) → k < count → is_used (slot_at slots k) ≡ true → Contains ranges (range_of_slot (slot_at slots k))
  pub only : (x : Range) → Contains ranges x → (k : ℕ) × (k < count) × (is_used (slot_at slots k) ≡ true)
      × (x ≡ range_of_slot (slot_at slots k))

-- where they were gathered, they are, and have room for so many more
abbrev pub HasUsed : Option Blocks → ℕ → List Slot → Type 0
HasUsed None spare slots = spare ≡ 0
HasUsed (Some b) spare slots = AreRangesOf b.ranges slots × (spare ≤ b.spare)

-- a range begins at this block
abbrev pub HasStart : Option Blocks → ℕ → Type 0
HasStart None start = Unit {0}
HasStart (Some b) start = SomeIndex b.ranges (λ i. (range_at b.ranges i).start ≡ start)

-- a store's blocks lose the range that begins here
abbrev pub Forgets : ℕ → Option Blocks → Option Blocks → Type 0
Forgets start None None = Unit {0}
Forgets start (Some b) (Some d) = (d.ranges ≡ without start b.ranges) × (d.spare ≡ b.spare)
Forgets start None (Some d) = ⊥
Forgets start (Some b) None = ⊥

-- a range was put in
abbrev pub HasRange : Slot → Option Blocks → Option Blocks → Type 0
HasRange s None new = ⊥
HasRange s (Some b) None = ⊥
HasRange s (Some b) (Some d) = (d.ranges ≡ with_range (range_of_slot s) b.ranges) × (d.spare + 1 ≡ b.spare)

-- a used slot's range was taken out
pub record ForgetsSlot (s : Slot) (old new : Option Blocks) : Type 0 where
  pub used : is_used s ≡ true → Forgets s.offset old new
  pub unused : is_used s ≡ false → new ≡ old

-- there is room for one more range, which is free
abbrev pub IsFreeIn : Slot → Option Blocks → Type 0
IsFreeIn s None = ⊥
IsFreeIn s (Some b) = IsFree b.ranges (range_of_slot s) × (1 ≤ b.spare)
