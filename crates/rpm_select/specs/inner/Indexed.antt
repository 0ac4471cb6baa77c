-- What asking an index takes.
use Rattle.std.specs.Prelude.{◌≡◌, true, false}
use Rattle.rpm_outside.specs.declared.disk.Disk as disk
use Rattle.rpm_db.specs.Database.{Database, is_indexed}
use Rattle.rpm_db.specs.Frame.{IsIndexKept}

module _ {D : Type 0} (d : disk.Ghosts D) where
  -- an index is kept and can be asked
  pub record HasIndex (at : D) (db : Database) : Type 0 where
    pub indexed : is_indexed db ≡ true
    pub going : db.stopped ≡ false
    pub keeps : IsIndexKept d at db
