-- Files and images that represent a lawful database, and a database that is ready to be asked by its index: what the
-- page (`rpm_tool`, Theorem.antt) calls so.
use Rattle.std.specs.Prelude.{◌≡◌, ◌⊎◌, Bool, true, false, Ok}
use Rattle.rpm_outside.specs.Frame.{images}
use Rattle.rpm_outside.specs.Files.{Files, Units}
use Rattle.rpm_outside.specs.Logs.{Closed, log_state, reopened_files}
use Rattle.rpm_pkgdb.specs.Store.{Store, store}
use Rattle.rpm_group.specs.Loads.{IsSound}
use Rattle.rpm_group.specs.Crashes.{KeepsLog}
use Rattle.rpm_db.specs.Lawful.{HasRows, IsLawful, is_current_at}
use Rattle.rpm_db.specs.State.{packages}

-- files that represent a lawful database: their log is closed, or has a transaction that makes it of them
pub record IsLawfulDatabase (files : Files) : Type 0 where
  pub sound : IsSound (log_state files.log)
  pub lawful : IsLawful (reopened_files files).pkg (reopened_files files).idx

-- a command that makes the index anew may begin with any index; another asks for a lawful database
abbrev pub MayBegin : Bool → Type 0 → Type 0
MayBegin true Lawful = Unit {0}
MayBegin false Lawful = Lawful

-- each of these images is
abbrev pub AreLawfulDatabases : (Files → Type 0) → Type 0
AreLawfulDatabases images = (image : Files) → images image → IsLawfulDatabase image

-- an image, lawful or not, represents the packages that one of these represents, and keeps that one's log
pub record KeepsPackages (images : Files → Type 0) (image : Files) : Type 0 where
  pub from : Files
  pub was : images from
  pub pkg : (reopened_files image).pkg ≡ (reopened_files from).pkg
  pub log : KeepsLog from image

-- a lawful image, that represents the packages that one of these represents
pub record IsLawfulAndSame (images : Files → Type 0) (image : Files) : Type 0 where
  pub from : Files
  pub was : images from
  pub pkg : (reopened_files image).pkg ≡ (reopened_files from).pkg
  pub lawful : IsLawfulDatabase image

-- the index is current, and holds the rows of the packages, each as often; a database that is blank needs none
pub record HasUsableIndex (pkg idx : Units) : Type 0 where
  pub value : Store
  pub undamaged : store pkg ≡ Ok value
  pub index : (value.pages ≡ 0) ⊎ ((is_current_at value.generation idx ≡ true) × HasRows (packages pkg value) idx)

-- a database has its index, and nothing is left of a change
pub record HasClosedIndex (files : Files) : Type 0 where
  pub closed : log_state files.log ≡ Closed
  pub indexed : HasUsableIndex files.pkg files.idx
