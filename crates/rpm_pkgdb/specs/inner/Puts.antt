-- What is written while a blob is put.
use Rattle.std.specs.Prelude.{◌≡◌, ◌⊎◌, ℕ, ◌^◌, ◌<◌, ◌≤◌, List, [], ◌∷◌, length, Bool, true, false, Option, Some, None}
use Rattle.rpm_outside.specs.Files.{Units, units_of, with_units}
use Rattle.rpm_outside.specs.Crash.{Torn}
use Rattle.rpm_pkgdb.specs.declared.slot.Slot.{Slot}
use Rattle.rpm_pkgdb.specs.declared.plan.Target.{Target}
use Rattle.rpm_pkgdb.specs.Words.{word}
use Rattle.rpm_pkgdb.specs.Slots.{slot_at, free}
use Rattle.rpm_pkgdb.specs.Store.{Store}
use Rattle.rpm_pkgdb.specs.Stays.{SameOutside}
use Rattle.rpm_pkgdb.specs.Framing.{framed_blob}
use Rattle.rpm_pkgdb.specs.Plans.{IsTarget}
use Rattle.rpm_pkgdb.specs.laws.Parts.{slot_for}
use Rattle.rpm_pkgdb.specs.Quiet.{RepresentsStore}
use Rattle.rpm_pkgdb.specs.Written.{next_field}
use Rattle.rpm_pkgdb.specs.laws.Parts.{with_next}
use Rattle.rpm_pkgdb.specs.inner.Settings.{RepresentsSlot}

-- the number field was written, or stays
abbrev pub FieldPut : Option ℕ → Units → Units → Type 0
FieldPut None old new = new ≡ old
FieldPut (Some next) old new = (unit : List ℕ) × (word 0 unit ≡ next) × (new ≡ with_units 1 (unit ∷ []) old)

-- a write of it was cut short
abbrev pub FieldTorn : Option ℕ → Units → Units → Type 0
FieldTorn None old new = new ≡ old
FieldTorn (Some next) old new = (new ≡ old) ⊎ ((unit : List ℕ) × (word 0 unit ≡ next) × Torn 1 (unit ∷ []) old new)

-- some blocks changed, and then perhaps the number field
pub record BlobTorn (at n : ℕ) (field : Option ℕ) (old new : Units) : Type 0 where
  pub mid : Units
  pub blocks : SameOutside at n old mid
  pub field_torn : FieldTorn field mid new

-- a blob was written, and then perhaps the number field
pub record BlobPut (at : ℕ) (units : Units) (field : Option ℕ) (old new : Units) : Type 0 where
  pub mid : Units
  pub blocks : mid ≡ with_units at units old
  pub field_put : FieldPut field mid new

-- a target for this value, a blob of its length, and the slot whose blocks it frees
pub record CanPut (value : Store) (target : Target) (generation : ℕ) (old : Slot) (blob : List ℕ) : Type 0 where
  pub made : 1 ≤ value.pages
  pub target_is : IsTarget value target
  pub length_is : target.length ≡ length blob
  pub generation_is : generation ≡ value.generation
  pub fits : generation < 2 ^ 32
  pub new : target.is_new ≡ true → old ≡ free
  pub replaced : target.is_new ≡ false → old ≡ slot_at value.slots target.place

-- an image says the value with the blob, whose blocks stand in it; the other slots' blocks are as in a file from before
abbrev pub RepresentsPut : Store → Target → ℕ → List ℕ → Units → Units → Type 0
RepresentsPut value target generation blob file image =
    RepresentsSlot (with_next (next_field target) value) target.place (slot_for target)
    (units_of (framed_blob target.number generation blob)) file image

-- an image represents the value from before, it with the next number, or it with the blob
pub data WhilePut (value : Store) (target : Target) (generation : ℕ) (blob : List ℕ) (file image : Units) : Type 0 where
  Before : RepresentsStore value file image → WhilePut value target generation blob file image
  Numbered : RepresentsStore (with_next (next_field target) value) file image
      → WhilePut value target generation blob file image
  After : RepresentsPut value target generation blob file image → WhilePut value target generation blob file image

-- a target is of this number and this length, and new or not
pub record IsTargetFor (number length : ℕ) (is_new : Bool) (target : Target) : Type 0 where
  pub number_is : target.number ≡ number
  pub length_is : target.length ≡ length
  pub new_is : target.is_new ≡ is_new
