-- Packages.db on a disk, in short words: what it holds, what a value keeps of it, and what crashes leave of it.
use Rattle.std.specs.Prelude.{◌≡◌, ◌≤◌, ◌↔◌, ℕ, false, IsTrue, None, Result, Err}
use Rattle.rpm_outside.specs.declared.disk.Disk as disk
use Rattle.rpm_outside.specs.declared.disk.File.TheVariants.{Pkg}
use Rattle.rpm_outside.specs.Changes.{IsTornOnly}
use Rattle.rpm_outside.specs.Files.{Units, Files}
use Rattle.rpm_outside.specs.Frame.{images, CrashLeaves, DiskFault, OnlyReads}
use Rattle.rpm_pkgdb.specs.Blobs.{blobs}
use Rattle.rpm_pkgdb.specs.Costs.{cost}
use Rattle.rpm_pkgdb.specs.Quiet.{BlobMap, IsQuiet, Represents}
use Rattle.rpm_pkgdb.specs.Slots.{slot_with}
use Rattle.rpm_pkgdb.specs.Store.{Store, KeepsStore}
use Rattle.rpm_pkgdb.specs.declared.blob.GetFault.{GetFault}
use Rattle.rpm_pkgdb.specs.declared.blob.GetFault.TheVariants as fault

module _ {D : Type 0} (d : disk.Ghosts D) where
  -- the units of the file
  abbrev pub pkg : D → Units
  pkg at = (d.files at).pkg

  -- each crash from now on leaves the value
  abbrev pub Quiet : D → Store → Type 0
  Quiet at value = IsQuiet value (d.files at) (images d at)

  -- a crash in between leaves a file of which this holds
  abbrev pub CrashLeavesFile : D → D → (Units → Type 0) → Type 0
  CrashLeavesFile old new P = CrashLeaves d old new (IsTornOnly Pkg P (images d old))

  -- the value is made and going, and the file says it
  pub record IsWritable (at : D) (value : Store) : Type 0 where
    pub going : value.is_stopped ≡ false
    pub made : 1 ≤ value.pages
    pub keeps : IsTrue d.tells → KeepsStore (pkg at) value

  -- a call read at most the blocks of a number and did nothing else, the file still says the value, NoSuch comes exactly
  -- where no slot has the number, and a disk fault has its cause
  pub record ReadsBlob {T : Type 0} (n : ℕ) (value : Store) (result : Result T GetFault) (old new : D) : Type 0 where
    pub kept : IsTrue d.tells → KeepsStore (pkg new) value
    pub absent : (result ≡ Err fault.NoSuch) ↔ (slot_with n value.slots ≡ None)
    pub looks : OnlyReads d Pkg (cost n value) old new
    pub cause : DiskFault d (result ≡ Err fault.DiskFault) old new

  -- the value is written, with these blobs
  pub record IsWritten (at : D) (value : Store) (map : BlobMap) : Type 0 where
    -- the file says it
    pub kept : KeepsStore (pkg at) value
    -- each crash from now on leaves it
    pub quiet : Quiet at value
    -- and these blobs
    pub stands : (image : Files) → images d at image
        → Represents value.generation value.field (blobs (pkg at) value) image.pkg
    pub blobs_are : blobs (pkg at) value ≡ map
