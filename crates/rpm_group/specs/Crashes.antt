-- What a crash may leave of a disk, seen by what its files stand for.
use Rattle.std.specs.Prelude.{◌≡◌, Bool, Result, Ok, Err, true, false}
use Rattle.rpm_outside.specs.Files.{Files}
use Rattle.rpm_outside.specs.Logs.{LogState, Closed, Malformed, Open, log_state, reopened_files}
use Rattle.rpm_group.specs.Loads.{IsSound}
use Rattle.rpm_group.specs.Readings.{IsOpen}
use Rattle.rpm_group.specs.declared.recovery.RecoverFault.{RecoverFault}
use Rattle.rpm_group.specs.declared.recovery.RecoverFault.TheVariants.{BadLog, DiskFault}

-- an image represents these files, and its log isn't malformed
pub record ReopensAs (files image : Files) : Type 0 where
  pub same : reopened_files image ≡ files
  pub sound : IsSound (log_state image.log)

-- files that came of others: a malformed log stays with the files beside it, and no other log becomes malformed
abbrev pub KeepsLog : Files → Files → Type 0
KeepsLog old new = elim (log_state old.log) [
  | Malformed unit ↦ new ≡ old
  | Closed ↦ IsSound (log_state new.log)
  | Open entries ↦ IsSound (log_state new.log)
]

-- an image represents what another represents, and keeps that one's log
pub record RepresentsSame (from image : Files) : Type 0 where
  pub same : reopened_files image ≡ reopened_files from
  pub log : KeepsLog from image

-- an image represents what one of these represents, and keeps that one's log
abbrev pub ReopensAsOneOf : (Files → Type 0) → Files → Type 0
ReopensAsOneOf images image = (from : Files) × images from × RepresentsSame from image

-- whether the log was open, or where it was wrong
abbrev pub RecoverSays : LogState → Result Bool RecoverFault → Type 0
RecoverSays state (Ok true) = IsOpen state
RecoverSays state (Ok false) = state ≡ Closed
RecoverSays state (Err (BadLog unit)) = state ≡ Malformed unit
RecoverSays state (Err DiskFault) = Unit {0}

-- unless the log holds a change to finish, the files stay as they read; with one, the log isn't malformed afterwards
abbrev pub RecoverKeeps : LogState → Files → Files → Type 0
RecoverKeeps (Open entries) old new = IsSound (log_state new.log)
RecoverKeeps others old new = new ≡ old
