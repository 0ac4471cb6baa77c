-- What stands around a question: a database on a disk, by the ghost members of its kind, which a clause names `D.Disk`.
use Rattle.std.specs.Prelude.{◌≡◌, ℕ, List, false, IsTrue, IfErr, Result, Err}
use Rattle.rpm_outside.specs.declared.disk.Disk as disk
use Rattle.rpm_outside.specs.declared.disk.File.TheVariants.{Idx, Pkg}
use Rattle.rpm_outside.specs.Frame as outside
use Rattle.rpm_tags.specs.declared.kind.Kind.{Kind}
use Rattle.rpm_db.specs.Database.{Database}
use Rattle.rpm_db.specs.Frame.{IsStoreKept, IsIndexKept}
use Rattle.rpm_select.specs.declared.picked.PickFault.{PickFault}
use Rattle.rpm_select.specs.declared.picked.PickFault.TheVariants as fault
use Rattle.rpm_select.specs.Picks.{is_broken}
use Rattle.rpm_select.specs.Reach.{HasIndexRows, IsBrokenChain, KeysCost}

module _ {D : Type 0} (d : disk.Ghosts D) where
  -- an index that is kept holds the rows of the packages
  abbrev pub HasKeptRows : D → Database → Type 0
  HasKeptRows at db = HasIndexRows db (d.files at).pkg (d.files at).idx

  -- a call read at most so many bytes of the packages and did nothing else, and its fault is of the disk with its
  -- cause, or of memory
  pub record AsksPackages {X : Type 0} (most : ℕ) (old new : D) (db : Database)
      (result : Result X PickFault) : Type 0 where
    pub kept : IsStoreKept d new db
    pub looks : outside.OnlyReads d Pkg most old new
    pub cause : outside.DiskFault d (result ≡ Err fault.DiskFault) old new
    pub unbroken : is_broken result ≡ false

  -- an index was asked for these keys: what is read for them alone was read and nothing else happened, and a fault has
  -- its cause
  pub record AsksIndex {X : Type 0} (keys : List (Kind × List ℕ)) (old new : D) (db : Database)
      (result : Result X PickFault) : Type 0 where
    pub kept_index : IsIndexKept d new db
    pub broken : IsTrue d.tells → IfErr result (IsBrokenChain keys (d.files old).idx)
    pub lawful : IsTrue d.tells → HasKeptRows old db → is_broken result ≡ false
    pub cost : IsTrue d.tells → KeysCost (d.files old).idx keys (d.bytes_read old Idx) (d.bytes_read new Idx)
    pub looks : outside.OnlyReadsFile d Idx old new
    pub cause : outside.DiskFault d (result ≡ Err fault.DiskFault) old new
