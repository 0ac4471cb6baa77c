-- What a question asks of an open database.
use Rattle.std.specs.Prelude.{◌≡◌, false}
use Rattle.rpm_outside.specs.declared.disk.Disk as disk
use Rattle.rpm_db.specs.Database.{Database}
use Rattle.rpm_db.specs.Frame.{IsStoreKept, IsIndexKept}

module _ {D : Type 0} (d : disk.Ghosts D) where
  -- a database can be asked when it is what both files say, and wasn't stopped
  pub record IsAskable (at : D) (db : Database) : Type 0 where
    pub keeps : IsStoreKept d at db
    pub keeps_index : IsIndexKept d at db
    pub going : db.stopped ≡ false
