-- What stands around a call: a database on a disk, by the ghost members of its kind, which a clause names `D.Disk`.
use Rattle.std.specs.Prelude.{◌≡◌, ℕ, Result, Err}
use Rattle.rpm_outside.specs.declared.disk.Disk as disk
use Rattle.rpm_outside.specs.declared.disk.File.TheVariants.{Pkg}
use Rattle.rpm_outside.specs.Frame as outside
use Rattle.rpm_db.specs.Database.{Database}
use Rattle.rpm_db.specs.Frame.{IsStoreKept}
use Rattle.rpm_filecheck.specs.declared.fault.FileCheckFault.{FileCheckFault}
use Rattle.rpm_filecheck.specs.declared.fault.FileCheckFault.TheVariants as fault

module _ {D : Type 0} (d : disk.Ghosts D) where
  -- a database was asked: it can be asked further, at most so many bytes of its packages were read, and a fault has its
  -- cause
  pub record FileQuestion {X : Type 0} (most : ℕ) (old new : D) (db : Database)
      (result : Result X FileCheckFault) : Type 0 where
    pub kept : IsStoreKept d new db
    pub looks : outside.OnlyReads d Pkg most old new
    pub cause : outside.DiskFault d (result ≡ Err fault.DiskFault) old new
