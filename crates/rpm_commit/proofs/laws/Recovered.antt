-- What a crash leaves meanwhile of a disk that represents what it represented.
use Rattle.std.proofs.Common.{◌≡◌, ℕ, ◌^◌, ◌≤◌, Bool, true, false, Ok, sym, ap, subst, inl, arith}
use Rattle.rpm_outside.specs.declared.disk.Disk as disk
use Rattle.rpm_db.specs.Lawful.{IsLawful}
use Rattle.rpm_group.specs.Loads.{IsSound}
use Rattle.rpm_group.specs.Crashes.{RecoverSays, ReopensAsOneOf}
use Rattle.rpm_group.proofs.laws.KeptLogs.{kept_sound}
use Rattle.rpm_outside.specs.Files.{Files, Units}
use Rattle.rpm_outside.specs.Frame.{images, CrashLeaves}
use Rattle.rpm_outside.specs.Logs.{LogState}
use Rattle.rpm_outside.proofs.laws.Moments.{leaves_weaker}
use Rattle.rpm_commit.specs.Changing.{AllRowsFit, RowsFit}
use Rattle.rpm_commit.specs.laws.Words.{IsLawfulAndSameOr}
use Rattle.rpm_commit.specs.Lawful.{AreLawfulDatabases, KeepsPackages, IsLawfulAndSame}
use Rattle.rpm_db.specs.Openings.{units_needed}
use Rattle.rpm_db.specs.State.{State}
use Rattle.rpm_pkgdb.specs.Store.{store}

-- a log that was recovered wasn't malformed
pub recovered_sound : (log : LogState) (finished : Bool) → RecoverSays log (Ok finished) → IsSound log
recovered_sound log true says = subst IsSound (sym says) tt
recovered_sound log false says = subst IsSound (sym says) tt

-- an image that represents what one of these represents keeps its packages
pub recovered_packages : (images : Files → Type 0) (image : Files) → ReopensAsOneOf images image
    → KeepsPackages images image
recovered_packages images image (from, was, stands) =
    record { from = from; was = was; pkg = ap (λ (f : Files). f.pkg) stands.same; log = stands.log }

-- an image is lawful and keeps its packages where it represents what one of these represents
pub recovered_still : (images : Files → Type 0) → AreLawfulDatabases images → (image : Files)
    → ReopensAsOneOf images image → IsLawfulAndSame images image
recovered_still images lawful image (from, was, stands) = record {
  from = from;
  was = was;
  pkg = ap (λ (f : Files). f.pkg) stands.same;
  lawful = record {
    sound = kept_sound from image stands.log (lawful from was).sound;
    lawful = subst (λ (f : Files). IsLawful f.pkg f.idx) (sym stands.same) (lawful from was).lawful;
  };
}

-- the rows of one that is lawful and keeps its packages fit where those of each do
pub still_fits : (images : Files → Type 0) → AllRowsFit images → (image : Files) → IsLawfulAndSame images image
    → RowsFit image
still_fits images fit image still =
    subst (λ (pkg : Units). units_needed pkg (store pkg) ≤ 2 ^ 28) (sym still.pkg) (fit still.from still.was)

pub recovered_fits : (images : Files → Type 0) → AllRowsFit images → (image : Files) → ReopensAsOneOf images image
    → RowsFit image
recovered_fits images fit image (from, was, stands) =
    subst (λ (f : Files). units_needed f.pkg (store f.pkg) ≤ 2 ^ 28) (sym stands.same) (fit from was)

module _ {D : Type 0} (d : disk.Ghosts D) (old mid : D) where
  -- calls that leave no image more
  pub leaves_on : (last : D) (P : Files → Type 0) → d.moment last ≡ d.moment mid
      → ((t : ℕ) (image : Files) → d.left_since last t image → d.left_since mid t image) → CrashLeaves d old mid P
      → CrashLeaves d old last P
  leaves_on last P stays back run = record {
    later = omega (arith, run.later, stays);
    each = λ image left. run.each image (back (d.moment old) image left);
    before = λ t image le left. run.before t image le (back t image left);
  }

  module _ (run : CrashLeaves d old mid (ReopensAsOneOf (images d old))) where
    pub recovering_packages : CrashLeaves d old mid (KeepsPackages (images d old))
    recovering_packages = leaves_weaker d old mid (ReopensAsOneOf (images d old)) (KeepsPackages (images d old))
        (recovered_packages (images d old)) run

    pub recovering_still : AreLawfulDatabases (images d old) → CrashLeaves d old mid (IsLawfulAndSame (images d old))
    recovering_still lawful = leaves_weaker d old mid (ReopensAsOneOf (images d old)) (IsLawfulAndSame (images d old))
        (recovered_still (images d old) lawful) run

    pub recovering : AreLawfulDatabases (images d old) → (s : State)
        → CrashLeaves d old mid (IsLawfulAndSameOr (images d old) s)
    recovering lawful s = leaves_weaker d old mid (IsLawfulAndSame (images d old)) (IsLawfulAndSameOr (images d old) s)
        (λ image still. inl still) (recovering_still lawful)

    pub recovering_fits : AllRowsFit (images d old) → CrashLeaves d old mid RowsFit
    recovering_fits fit =
        leaves_weaker d old mid (ReopensAsOneOf (images d old)) RowsFit (recovered_fits (images d old) fit) run
