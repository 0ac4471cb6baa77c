-- What a crash may leave.
use Rattle.std.specs.Prelude.{◌≡◌, ◌⊎◌, ℕ, ◌≤◌, length}
use Rattle.rpm_outside.specs.declared.disk.File.{File}
use Rattle.rpm_outside.specs.declared.disk.File.TheVariants.{Pkg, Idx, Log}
use Rattle.rpm_outside.specs.Causes.{Rose}
use Rattle.rpm_outside.specs.Files.{Units, Files, file_of, with_file, unit_at, with_units}

-- a write that was cut short: each unit is the old one or the written one, and any length between
pub record Torn (at : ℕ) (units old new : Units) : Type 0 where
  pub each : (i : ℕ) → (unit_at new i ≡ unit_at old i) ⊎ (unit_at new i ≡ unit_at (with_units at units old) i)
  pub no_shorter : length old ≤ length new
  pub no_longer : length new ≤ length (with_units at units old)

-- one of three files became this by a write that was cut short, and the other two stay
pub record TornFile (file : File) (at : ℕ) (units : Units) (old new : Files) : Type 0 where
  pub torn : Torn at units (file_of file old) (file_of file new)
  pub others : new ≡ with_file file (file_of file new) old

-- each new outcome of a crash is an old outcome after a step
abbrev pub OnlyAfter : (Files → Files → Type 0) → (Files → Type 0) → (Files → Type 0) → Type 0
OnlyAfter step old new = (image : Files) → new image → (from : Files) × old from × step from image

-- time goes on: an image since t is one from before, or one of the present moment
pub record Elapses (before now : ℕ) (past since : ℕ → Files → Type 0) : Type 0 where
  pub later : before ≤ now
  pub nothing_else : (t : ℕ) (image : Files) → t ≤ before → since t image → past t image ⊎ since now image

-- nothing changes, neither the files nor their images
pub record IsUntouched (old new : Files) (past since : ℕ → Files → Type 0) : Type 0 where
  pub same : new ≡ old
  pub images : (t : ℕ) (image : Files) → since t image → past t image
  pub kept : (t : ℕ) (image : Files) → past t image → since t image

-- a failing call took a moment of its own, or it did nothing
abbrev pub RisesOrStays : ℕ → ℕ → Files → Files → (ℕ → Files → Type 0) → (ℕ → Files → Type 0) → Type 0
RisesOrStays before now old new past since = Rose before now ⊎ ((now ≡ before) × IsUntouched old new past since)

-- a count of bytes is that number for this file, and none for another
abbrev pub bytes_for : File → File → ℕ → ℕ
bytes_for Pkg Pkg n = n
bytes_for Idx Idx n = n
bytes_for Log Log n = n
bytes_for file other n = 0
