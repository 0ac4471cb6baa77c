-- Writes that change no used block, and writes of one unit.
use Rattle.std.specs.Prelude.{◌≡◌, ◌⊎◌, ℕ, ◌+◌, ◌*◌, ◌<◌, ◌≤◌, List, [], ◌∷◌, length, true}
use Rattle.rpm_outside.specs.Files.{Units, unit_at, with_units}
use Rattle.rpm_pkgdb.specs.Slots.{slot_at, is_used, end_of}
use Rattle.rpm_pkgdb.specs.Store.{Store}

-- a range after the slot pages in which no used slot has a block
pub record IsClear (store : Store) (at n : ℕ) : Type 0 where
  pub behind : 256 * store.pages ≤ at
  pub apart : (k : ℕ) → is_used (slot_at store.slots k) ≡ true → (at + n ≤ (slot_at store.slots k).offset)
      ⊎ (end_of (slot_at store.slots k) ≤ at)

-- nothing changed, or this unit was put
abbrev pub IsPut : ℕ → List ℕ → Units → Units → Type 0
IsPut at unit old new = (new ≡ old) ⊎ (new ≡ with_units at (unit ∷ []) old)

-- a file has these units from this one on
pub record HasUnits (file : Units) (at : ℕ) (units : Units) : Type 0 where
  pub within : at + length units ≤ length file
  pub each : (k : ℕ) → k < length units → unit_at file (at + k) ≡ unit_at units k
