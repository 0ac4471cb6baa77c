-- What a put of a blob asks, and what it makes of each value that the file may say.
use Rattle.std.specs.Prelude.{◌≡◌, ℕ, ◌+◌, ◌^◌, ◌<◌, ◌≤◌, List, length, true, false, IfSome}
use Rattle.rpm_outside.specs.declared.disk.Disk as disk
use Rattle.rpm_outside.specs.Files.{unit_at, blank}
use Rattle.rpm_pkgdb.specs.declared.plan.Target.{Target}
use Rattle.rpm_pkgdb.specs.declared.slot.Slot.{Slot}
use Rattle.rpm_pkgdb.specs.Blobs.{blocks_for}
use Rattle.rpm_pkgdb.specs.Frame.{pkg, Quiet}
use Rattle.rpm_pkgdb.specs.Framing.{next_unit}
use Rattle.rpm_pkgdb.specs.Freed.{KeepsBlank}
use Rattle.rpm_pkgdb.specs.Slots.{slot_at, end_of, free}
use Rattle.rpm_pkgdb.specs.Store.{Store, KeepsStore}
use Rattle.rpm_pkgdb.specs.Written.{next_field, with_put}
use Rattle.rpm_pkgdb.specs.inner.Puts.{CanPut, RepresentsPut}
use Rattle.rpm_pkgdb.specs.inner.Within.{KeepsEnd}

-- the slot that a target replaces, and a free one for a new number
pub record IsReplaced (value : Store) (target : Target) (old : Slot) : Type 0 where
  pub new : target.is_new ≡ true → old ≡ free
  pub held : target.is_new ≡ false → old ≡ slot_at value.slots target.place
  pub end : end_of old ≤ 2 ^ 28

-- a blob of this length, its slot, and the blocks that it replaces lie below the limits
pub record HasRoomFor (target : Target) (old : Slot) (size : ℕ) : Type 0 where
  pub few : size ≤ 68157432
  pub blocks : target.start + blocks_for size ≤ 2 ^ 28
  pub length_is : target.length ≡ size
  pub number : target.number < 4294967295
  pub place : target.place + 3 ≤ 2 ^ 28
  pub end : end_of old ≤ 2 ^ 28

module _ {D : Type 0} (d : disk.Ghosts D) where
  -- a blob was put in the place of a slot's
  pub record IsBlobPut (old new : D) (target : Target) (generation : ℕ) (replaced : Slot)
      (blob : List ℕ) : Type 0 where
    pub stands : (value : Store) → CanPut value target generation replaced blob
        → KeepsStore (pkg d old) value
        → RepresentsPut value target generation blob (pkg d old) (pkg d new)
    pub quiet : (value : Store) → CanPut value target generation replaced blob
        → KeepsStore (pkg d old) value → Quiet d new (with_put target value)
    pub next : replaced ≡ free
        → IfSome (next_field target) (λ n. unit_at (pkg d new) 1 ≡ next_unit n)
    pub stays : 2 ≤ target.start → 2 ≤ replaced.offset → target.is_new ≡ false
        → unit_at (pkg d new) 1 ≡ unit_at (pkg d old) 1
    pub zeros : (i : ℕ) → replaced.offset ≤ i → i < end_of replaced
        → unit_at (pkg d new) i ≡ blank
    pub blanks : KeepsBlank (target.place + 3) target.start (blocks_for (length blob)) (pkg d old)
        (pkg d new)
    pub reach : (limit : ℕ) → target.start + blocks_for (length blob) ≤ limit
        → target.place + 3 ≤ limit → end_of replaced ≤ limit
        → KeepsEnd limit (pkg d old) (pkg d new)
