-- What writing calls leave of a store.
use Rattle.std.specs.Prelude.{◌≡◌, ◌⊎◌, ℕ, ◌+◌, ◌<◌, ◌≤◌, List, map, slice_set, if◌then◌else◌, Option, Some, None, Ok}
use Rattle.std.specs.Prelude.{true, replicate, unwrap_or}
use Rattle.std.specs.FinMap as finite
use Rattle.rpm_outside.specs.Files.{Units, unit_at, blank}
use Rattle.rpm_pkgdb.specs.declared.slot.Slot.{Slot}
use Rattle.rpm_pkgdb.specs.declared.plan.Target.{Target}
use Rattle.rpm_pkgdb.specs.declared.plan.Plan.{Plan}
use Rattle.rpm_pkgdb.specs.Slots.{end_of, free, has_number}
use Rattle.rpm_pkgdb.specs.Store.{Store, store, blank_store}
use Rattle.rpm_pkgdb.specs.Blobs.{blobs, blocks_for}
use Rattle.rpm_pkgdb.specs.Growing.{grown}
use Rattle.rpm_pkgdb.specs.Planned.{moves_of}
use Rattle.rpm_pkgdb.specs.Quiet.{Represents}

-- the value after a call of the disk failed
abbrev pub stopped_store : Store → Store
stopped_store value = record value { is_stopped = true }

-- the value with the slot of a number free
abbrev pub without_number : ℕ → Store → Store
without_number n value = record value { slots = map (λ s. if has_number n s then free else s) value.slots }

-- the blocks of a slot are zeros
abbrev pub AreZeros : Option Slot → Units → Type 0
AreZeros None file = Unit {0}
AreZeros (Some s) file = (i : ℕ) → s.offset ≤ i → i < end_of s → unit_at file i ≡ blank

-- what a crash leaves while a number is erased
abbrev pub ErasesTo : Store → ℕ → Units → Units → Type 0
ErasesTo value n file image =
    Represents value.generation value.field (blobs file value) image
    ⊎ Represents value.generation value.field (finite.remove (blobs file value) n) image

-- the value with another generation
abbrev pub with_generation : ℕ → Store → Store
with_generation generation value = record value { generation = generation }

-- what a crash leaves while the generation becomes another
abbrev pub RaisesTo : Store → ℕ → Units → Units → Type 0
RaisesTo value generation file image =
    Represents value.generation value.field (blobs file value) image
    ⊎ Represents generation value.field (blobs file value) image

-- the value once a database was made
abbrev pub made_new : Store → Store
made_new value = record value { generation = 1; pages = 1; field = 1; slots = replicate 254 free }

-- what a crash leaves while a database is made
abbrev pub MakesTo : Units → Type 0
MakesTo image = (store image ≡ Ok blank_store) ⊎ Represents 1 1 finite.empty image

-- the value with room for so many
abbrev pub with_spare : ℕ → Store → Store
with_spare spare value = record value { spare = spare }

-- what a target makes of the number field
abbrev pub next_field : Target → Option ℕ
next_field target = if target.is_new then Some (target.number + 1) else None

-- the value once a blob was put
abbrev pub with_put : Target → Store → Store
with_put target value = record value {
  field = unwrap_or (next_field target) value.field;
  slots = slice_set value.slots target.place
      (record { number = target.number; offset = target.start; count = blocks_for target.length });
}

-- what a crash leaves while a blob is put: the blobs from before, with the number field from before or after, or those
-- after, with that after
abbrev pub PutsTo : Store → Target → List ℕ → Units → Units → Type 0
PutsTo value target blob file image =
    Represents value.generation value.field (blobs file value) image
    ⊎ (Represents value.generation (unwrap_or (next_field target) value.field) (blobs file value) image
    ⊎ Represents value.generation (unwrap_or (next_field target) value.field)
    (finite.insert (blobs file value) target.number (Some blob)) image)

-- the value once a plan was put
abbrev pub with_plan : Plan → Store → Store
with_plan plan value = with_put plan.target (grown (moves_of plan.page) value)
