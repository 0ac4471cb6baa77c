-- A package that is erased, a generation that is raised, and a database that is made: what each makes.
use Rattle.std.specs.Prelude.{◌≡◌, ℕ, ◌*◌, ◌≤◌, length, None}
use Rattle.std.specs.FinMap as finite
use Rattle.rpm_outside.specs.declared.disk.Disk as disk
use Rattle.rpm_outside.specs.Files.{unit_at}
use Rattle.rpm_pkgdb.specs.Blobs.{blobs}
use Rattle.rpm_pkgdb.specs.Frame.{pkg, CrashLeavesFile, IsWritten}
use Rattle.rpm_pkgdb.specs.Framing.{next_unit}
use Rattle.rpm_pkgdb.specs.Freed.{KeepsBlank}
use Rattle.rpm_pkgdb.specs.Reaches.{ReachesTo}
use Rattle.rpm_pkgdb.specs.Slots.{slot_with}
use Rattle.rpm_pkgdb.specs.Stays.{AllStay, OthersStay, StaysBut}
use Rattle.rpm_pkgdb.specs.Store.{Store}
use Rattle.rpm_pkgdb.specs.Written.{AreZeros, ErasesTo}

module _ {D : Type 0} (d : disk.Ghosts D) where
  -- the package of a number was erased
  pub record IsErased (old new : D) (before after : Store) (n : ℕ) : Type 0 where
    -- the file says the value, with the blobs from before but this one
    pub written : IsWritten d new after (finite.remove (blobs (pkg d old) before) n)
    -- the other packages' blocks have the bytes from before
    pub others : OthersStay n before (pkg d old) after (pkg d new)
    -- and its own are zeros
    pub zeros : AreZeros (slot_with n before.slots) (pkg d new)
    -- as are blocks behind the pages that were zeros
    pub blanks : KeepsBlank (256 * after.pages) 0 0 (pkg d old) (pkg d new)
    -- the number field stays
    pub next : unit_at (pkg d new) 1 ≡ unit_at (pkg d old) 1
    -- the file got no longer
    pub reach : length (pkg d new) ≤ length (pkg d old)

  -- what crashes leave while it is erased
  pub record EraseCrashes (old new : D) (before : Store) (n : ℕ) : Type 0 where
    -- the blobs from before, or without this one
    pub images : CrashLeavesFile d old new (ErasesTo before n (pkg d old))
    -- the other packages' blocks byte for byte, and its own from before or none
    pub left : CrashLeavesFile d old new (StaysBut n None before (pkg d old))

  -- the generation was raised
  pub record IsRaised (old new : D) (before after : Store) : Type 0 where
    -- the file says the value, with the blobs from before
    pub written : IsWritten d new after (blobs (pkg d old) before)
    -- each package's blocks have the bytes from before
    pub others : AllStay before (pkg d old) after (pkg d new)
    -- the file got no longer
    pub reach : length (pkg d new) ≤ length (pkg d old)

  -- a database was made
  pub record IsMadeNew (old new : D) (after : Store) : Type 0 where
    -- the file says the value, without blobs
    pub written : IsWritten d new after finite.empty
    -- the number field says 1
    pub next : unit_at (pkg d new) 1 ≡ next_unit 1
    -- the file ends where it did, or with the page
    pub reach : ReachesTo after (pkg d old) (pkg d new)
