-- What making a database leaves.
use Rattle.std.specs.Prelude.{◌≡◌, ◌⊎◌, [], Bool, true, false, IsTrue, Result, Ok, Err}
use Rattle.std.specs.FinMap as finite
use Rattle.rpm_outside.specs.declared.disk.Disk as disk
use Rattle.rpm_outside.specs.declared.disk.File.TheVariants.{Idx}
use Rattle.rpm_outside.specs.Changes.{IsDurable}
use Rattle.rpm_outside.specs.Files.{Units, Files}
use Rattle.rpm_pkgdb.specs.Blobs.{blobs}
use Rattle.rpm_pkgdb.specs.Quiet.{IsQuiet}
use Rattle.rpm_pkgdb.specs.Reaches.{ReachesTo}
use Rattle.rpm_pkgdb.specs.Store.{Store, store}
use Rattle.rpm_pkgdb.specs.Written.{made_new}
use Rattle.rpm_hindex.specs.Sizes.{units_for}
use Rattle.rpm_db.specs.declared.change_fault.ChangeFault.{ChangeFault}
use Rattle.rpm_db.specs.declared.change_fault.ChangeFault.TheVariants.{Stopped, DiskFault, NoMemory}
use Rattle.rpm_db.specs.Database.{Database, IsIndexed, Keeps, KeepsIndex, generation_of, is_blank_database, is_indexed}
use Rattle.rpm_db.specs.Database.{store_of}
use Rattle.rpm_db.specs.Lawful.{IsLawful}
use Rattle.rpm_db.specs.Reaches.{ReachesMade}
use Rattle.rpm_db.specs.State.{state}

-- a Packages.db without packages, whose number field is 1
pub record IsEmpty (pkg : Units) : Type 0 where
  pub value : Store
  pub undamaged : store pkg ≡ Ok value
  pub none : blobs pkg value ≡ finite.empty
  pub field_is : value.field ≡ 1

-- a lawful image without packages, with the log of one of these
pub record IsEmptyStill (images : Files → Type 0) (image : Files) : Type 0 where
  pub from : Files
  pub was : images from
  pub log : image.log ≡ from.log
  pub lawful : IsLawful image.pkg image.idx
  pub empty : IsEmpty image.pkg

-- a fault that making a database can have
abbrev pub IsInitFault : ChangeFault → Type 0
IsInitFault Stopped = Unit {0}
IsInitFault DiskFault = Unit {0}
IsInitFault NoMemory = Unit {0}
IsInitFault _ = ⊥

-- ---- what it leaves

module _ {D : Type 0} (d : disk.Ghosts D) where
  -- there is a database: it was made exactly where there was none, and says what it said
  pub record IsThere (old new : D) (before after : Database) (made : Bool) : Type 0 where
    pub made_is : made ≡ is_blank_database before
    pub state_is : IsTrue d.tells → state (d.files new).pkg (store_of after) ≡ state (d.files old).pkg (store_of before)
    pub not_blank : is_blank_database after ≡ false

  -- a database was made: it has no package, an index without rows, and can be changed
  pub record IsInit (old new : D) (before after : Database) : Type 0 where
    pub store_is : store_of after ≡ made_new (store_of before)
    pub generation : generation_of after ≡ 1
    pub indexed : is_indexed after ≡ true
    pub going : after.stopped ≡ false
    pub keeps : IsTrue d.tells → Keeps (d.files new).pkg after
    pub keeps_index : IsTrue d.tells → KeepsIndex (d.files new).idx after
    pub index : IsTrue d.tells → IsIndexed (d.files new).pkg (d.files new).idx after
    pub quiet : IsTrue d.tells → IsQuiet (store_of after) (d.files new) (d.left_since new (d.moment new))
    pub durable : IsTrue d.tells → IsDurable Idx (d.files new) (d.left_since new (d.moment new))
    pub reach : IsTrue d.tells → ReachesMade (units_for []) (d.files old).idx (d.files new).idx
    pub end : IsTrue d.tells → ReachesTo (store_of after) (d.files old).pkg (d.files new).pkg

-- a value is stopped by a fault of the disk alone, and answers Stopped exactly where it was before
pub record IsStoppedByFault {A : Type 0} (before after : Database)
    (result : Result A ChangeFault) : Type 0 where
  pub stopped : (after.stopped ≡ true → (before.stopped ≡ true) ⊎ (result ≡ Err DiskFault))
      × (result ≡ Err DiskFault → after.stopped ≡ true)
  pub is_stopped : (before.stopped ≡ true → result ≡ Err Stopped)
      × (result ≡ Err Stopped → before.stopped ≡ true)
