-- What stands around a call: a database on a disk, by the ghost members of its kind, which a clause names `D.Disk`.
use Rattle.rpm_outside.specs.Frame.{DiskFault}
use Rattle.rpm_db.specs.Frame.{IsStoreKept, IsIndexKept}
use Rattle.rpm_select.specs.Frame.{HasKeptRows}
use Rattle.std.specs.Prelude.{◌≡◌, false, IsTrue, IfErr, Result, Err}
use Rattle.rpm_outside.specs.declared.disk.Disk as disk
use Rattle.rpm_db.specs.Database.{Database}
use Rattle.rpm_check.specs.declared.faults.CheckFault.{CheckFault}
use Rattle.rpm_check.specs.declared.faults.CheckFault.TheVariants as fault
use Rattle.rpm_check.specs.Answers as answers
use Rattle.rpm_check.specs.Answers.{IsBroken, is_broken_index}

module _ {D : Type 0} (d : disk.Ghosts D) where
  -- files, images and moment stay, and the log isn't read
  abbrev pub OnlyReadsBoth : D → D → Type 0
  OnlyReadsBoth = answers.OnlyReadsBoth d

  -- a database was asked: it can be asked further, nothing but reading happened, and a fault has its cause
  pub record CheckQuestion {X : Type 0} (old new : D) (db : Database) (result : Result X CheckFault) : Type 0 where
    pub kept : IsStoreKept d new db
    pub kept_index : IsIndexKept d new db
    pub broken : IsTrue d.tells → IfErr result (IsBroken (d.files old).idx)
    pub lawful : IsTrue d.tells → HasKeptRows d old db → is_broken_index result ≡ false
    pub looks : OnlyReadsBoth old new
    pub cause : DiskFault d (result ≡ Err fault.DiskFault) old new
