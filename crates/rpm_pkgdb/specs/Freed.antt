-- Blocks that are set free.
use Rattle.std.specs.Prelude.{◌≡◌, ◌⊎◌, ℕ, ◌+◌, ◌<◌, ◌≤◌, List, true}
use Rattle.rpm_outside.specs.Files.{Units, unit_at, blank}
use Rattle.rpm_pkgdb.specs.declared.slot.Slot.{Slot}
use Rattle.rpm_pkgdb.specs.Slots.{slot_at, is_used, end_of}

-- a used slot has this block
pub record HasBlock (slots : List Slot) (i : ℕ) : Type 0 where
  pub at : ℕ
  pub used : is_used (slot_at slots at) ≡ true
  pub from : (slot_at slots at).offset ≤ i
  pub below : i < end_of (slot_at slots at)

-- free blocks from this one on that were zeros or a slot's are zeros
abbrev pub AreFreed : ℕ → List Slot → Units → List Slot → Units → Type 0
AreFreed end old before new after = (i : ℕ) → HasBlock old i ⊎ (unit_at before i ≡ blank) → end ≤ i → ¬ HasBlock new i
    → unit_at after i ≡ blank

-- blocks from this one on that were zeros outside of a range stay zeros
abbrev pub KeepsBlank : ℕ → ℕ → ℕ → Units → Units → Type 0
KeepsBlank end at n old new = (i : ℕ) → end ≤ i → (i < at) ⊎ (at + n ≤ i) → unit_at old i ≡ blank
    → unit_at new i ≡ blank
