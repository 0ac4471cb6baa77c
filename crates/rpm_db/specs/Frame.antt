-- What stands around a call on a database: the disk, by the ghost members of its kind, which a clause names `D.Disk`.
-- Short words for all clauses.
use Rattle.std.specs.Prelude.{◌≡◌, ◌↔◌, ℕ, false, IsTrue, Result, Err}
use Rattle.std.specs.Ordering.{nat_cmp}
use Rattle.std.specs.FinMap.{FinMap}
use Rattle.rpm_outside.specs.declared.disk.Disk as disk
use Rattle.rpm_outside.specs.declared.disk.File.TheVariants.{Pkg}
use Rattle.rpm_outside.specs.Files.{Files}
use Rattle.rpm_outside.specs.Frame.{DiskFault, CrashLeaves, OnlyReads, images}
use Rattle.rpm_pkgdb.specs.declared.blob.GetFault.{GetFault}
use Rattle.rpm_pkgdb.specs.declared.blob.GetFault.TheVariants as fault
use Rattle.rpm_db.specs.Changes as changes
use Rattle.rpm_db.specs.Changes.{Change, IsChangedStill, apply}
use Rattle.rpm_db.specs.Database.{Database, Keeps, KeepsIndex}
use Rattle.rpm_db.specs.Database.{holds, package_cost, store_of}
use Rattle.rpm_db.specs.Database as database
use Rattle.rpm_db.specs.Lawful.{AreLawful}
use Rattle.rpm_db.specs.Runs as runs
use Rattle.rpm_db.specs.State.{Package, State, packages, state}

module _ {D : Type 0} (d : disk.Ghosts D) where
  -- the files, and what a crash leaves, came of those before as a relation says
  abbrev pub Runs : (Files → Files → Type 0) → D → D → Type 0
  Runs = runs.Runs d

  -- a call changed the files by this relation, and this answer comes only where the disk counted a fault
  pub record RunsOr (by : Files → Files → Type 0) (what : Type 0) (old new : D) : Type 0 where
    pub files : Runs by old new
    pub cause : DiskFault d what old new

  -- the value of a database is that of Packages.db as it reads
  abbrev pub IsStoreKept : D → Database → Type 0
  IsStoreKept it db = IsTrue d.tells → Keeps (d.files it).pkg db

  -- a call read at most a package's blocks and did nothing else, the file still says the database, NoSuch comes exactly
  -- where no package has the number, and a disk fault has its cause
  pub record ReadsPackage {T : Type 0} (n : ℕ) (db : Database) (result : Result T GetFault) (old new : D) : Type 0 where
    pub kept : IsStoreKept new db
    pub absent : (result ≡ Err fault.NoSuch) ↔ (holds n db ≡ false)
    pub looks : OnlyReads d Pkg (package_cost n db) old new
    pub cause : DiskFault d (result ≡ Err fault.DiskFault) old new

  -- a database's index is what Hindex.db says on this disk
  abbrev pub IsIndexKept : D → Database → Type 0
  IsIndexKept it db = IsTrue d.tells → KeepsIndex (d.files it).idx db

  -- a database serves on this disk: each crash leaves the same packages, and the index is durable
  abbrev pub Serving : D → Database → Type 0
  Serving it db = IsTrue d.tells → changes.IsServing (d.files it) (d.left_since it (d.moment it)) db

  -- a database's index on this disk is current, and holds the rows of its packages
  abbrev pub IsIndexed : D → Database → Type 0
  IsIndexed it db = database.IsIndexed (d.files it).pkg (d.files it).idx db

  -- the state that a database represents on this disk
  abbrev pub state_in : D → Database → State
  state_in it db = state (d.files it).pkg (store_of db)

  -- a database's packages on this disk
  abbrev pub packages_in : D → Database → FinMap nat_cmp Package
  packages_in it db = packages (d.files it).pkg (store_of db)

  -- a crash meanwhile leaves lawful files with the packages from before a change or after it, where those at the start
  -- are lawful
  abbrev pub StaysBetween : D → D → Change → Database → Type 0
  StaysBetween old new change db = IsTrue d.tells → AreLawful (images d old)
      → CrashLeaves d old new (IsChangedStill (state_in old db) (apply change (state_in old db)) (images d old))
