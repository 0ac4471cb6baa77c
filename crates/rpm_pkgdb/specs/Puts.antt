-- A package that is put, as one thing: what a put makes, and what crashes leave meanwhile.
use Rattle.std.specs.Prelude.{◌≡◌, ℕ, ◌+◌, ◌*◌, List, length, take, drop, true, false, Some}
use Rattle.std.specs.FinMap as finite
use Rattle.rpm_outside.specs.declared.disk.Disk as disk
use Rattle.rpm_outside.specs.Files.{units_of, unit_at}
use Rattle.rpm_pkgdb.specs.declared.plan.Plan.{Plan}
use Rattle.rpm_pkgdb.specs.declared.plan.Target.{Target}
use Rattle.rpm_pkgdb.specs.Blobs.{blobs, blocks_for}
use Rattle.rpm_pkgdb.specs.Frame.{pkg, CrashLeavesFile, IsWritten}
use Rattle.rpm_pkgdb.specs.Framing.{framed_blob, next_unit}
use Rattle.rpm_pkgdb.specs.Freed.{AreFreed}
use Rattle.rpm_pkgdb.specs.Placing.{put_in, replaced_by}
use Rattle.rpm_pkgdb.specs.Reaches.{ReachesTo}
use Rattle.rpm_pkgdb.specs.Slots.{slot_with}
use Rattle.rpm_pkgdb.specs.Stays.{OthersStay, StaysBut}
use Rattle.rpm_pkgdb.specs.Store.{Store}
use Rattle.rpm_pkgdb.specs.Written.{AreZeros, PutsTo, with_plan, with_spare}

-- the value after a put of so many bytes
pub record AfterPut (plan : Plan) (size : ℕ) (before after : Store) : Type 0 where
  -- it has the blob where the plan says
  pub ok : after ≡ with_spare after.spare (with_plan plan before)
  -- which is where a blob of its length goes
  pub placed : put_in (replaced_by plan.target) size before ≡ Some (with_spare before.spare after)
  -- and room for one put less
  pub spare : before.spare ≡ after.spare + 1

module _ {D : Type 0} (d : disk.Ghosts D) where
  -- the blob of a target was put
  pub record IsPut (old new : D) (before after : Store) (target : Target) (blob : List ℕ)
      : Type 0 where
    -- the file says the value, with the blobs from before and this one
    pub written : IsWritten d new after
        (finite.insert (blobs (pkg d old) before) target.number (Some blob))
    -- the other packages' blocks have the bytes from before
    pub others : OthersStay target.number before (pkg d old) after (pkg d new)
    -- and its own are its head, the bytes, zeros and its tail
    pub framed_in : take (blocks_for (length blob)) (drop target.start (pkg d new))
        ≡ units_of (framed_blob target.number before.generation blob)
    -- the number field says the number after a new one
    pub next : target.is_new ≡ true → unit_at (pkg d new) 1 ≡ next_unit (target.number + 1)
    -- and stays where the number isn't new
    pub stays : target.is_new ≡ false → unit_at (pkg d new) 1 ≡ unit_at (pkg d old) 1
    -- the blocks that it replaces are zeros
    pub zeros : AreZeros (slot_with target.number before.slots) (pkg d new)
    -- and those that moved blobs had, or that were zeros
    pub freed : AreFreed (256 * after.pages) before.slots (pkg d old) after.slots (pkg d new)
    -- the file ends where it did, or with the store
    pub reach : ReachesTo after (pkg d old) (pkg d new)

  -- what crashes leave while it is put
  pub record PutCrashes (old new : D) (before : Store) (target : Target) (blob : List ℕ)
      : Type 0 where
    -- the blobs from before, or with this one
    pub images : CrashLeavesFile d old new (PutsTo before target blob (pkg d old))
    -- the other packages' blocks byte for byte, and its own from before or the new ones
    pub left : CrashLeavesFile d old new (StaysBut target.number
        (Some (units_of (framed_blob target.number before.generation blob))) before (pkg d old))
