-- A database that can be asked still can be after calls that only read.
use Rattle.std.proofs.Common.{◌≡◌, false, Option, Some, None, is_some, sym, subst}
use Rattle.std.specs.Prelude.{IsTrue}
use Rattle.rpm_outside.specs.declared.disk.Disk as disk
use Rattle.rpm_db.specs.Database.{Database, Keeps, KeepsIndex, KeepsUnits}
use Rattle.rpm_outside.specs.Crash.{IsUntouched}
use Rattle.rpm_outside.specs.Files.{Files, Units}
use Rattle.rpm_db.specs.Asked.{IsAskable}
use Rattle.rpm_hindex.specs.State.{IndexState}

module _ {D : Type 0} (d : disk.Ghosts D) (old new : D) (db : Database) where
  pub asked_still : (IsTrue d.tells → IsUntouched (d.files old) (d.files new) (d.left_since old) (d.left_since new))
      → IsAskable d old db
      → IsAskable d new db
  asked_still untouched asked = record {
    keeps = λ told. subst (λ (f : Files). Keeps f.pkg db) (sym (untouched told).same) (asked.keeps told);
    keeps_index =
        λ told. subst (λ (f : Files). KeepsIndex f.idx db) (sym (untouched told).same) (asked.keeps_index told);
    going = asked.going;
  }

-- without an index nothing is kept of one
pub keeps_none : (idx : Units) (index : Option IndexState) → is_some index ≡ false → KeepsUnits idx index
keeps_none idx None none = tt
keeps_none idx (Some state) none = absurd cc
