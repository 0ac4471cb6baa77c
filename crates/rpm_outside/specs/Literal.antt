-- The images of a moment, unit by unit: each unit of an image is one that its file had since its last sync.
use Rattle.std.specs.Prelude.{◌≡◌, ℕ, ◌≤◌, List, [], ◌∷◌, take, drop, length}
use Rattle.rpm_outside.specs.declared.disk.File.{File}
use Rattle.rpm_outside.specs.declared.steps.Step.{Step}
use Rattle.rpm_outside.specs.declared.steps.Step.TheVariants.{Wrote, Synced}
use Rattle.rpm_outside.specs.Files.{Units, Files, file_of, unit_at}
use Rattle.rpm_outside.specs.Past.{after_steps}

-- the file isn't synced in these steps
abbrev pub NotSynced : File → List Step → Type 0
NotSynced file [] = Unit {0}
NotSynced file (Wrote other at units ∷ steps) = NotSynced file steps
NotSynced file (Synced other ∷ steps) = (file ≡ other → ⊥) × NotSynced file steps

-- the file after the first k steps, since which it wasn't synced
pub record HadSince (steps : List Step) (first : Files) (file : File) (P : Units → Type 0) : Type 0 where
  pub k : ℕ
  pub passed : k ≤ length steps
  pub not_synced : NotSynced file (drop k steps)
  pub had : P (file_of file (after_steps (take k steps) first))

-- each unit of an image has one of the contents that it had since its file's last sync, and the image's length is one
-- between
pub record IsImage (steps : List Step) (first image : Files) : Type 0 where
  pub units : (file : File) (i : ℕ) → HadSince steps first file (λ had. unit_at (file_of file image) i ≡ unit_at had i)
  pub no_shorter : (file : File) → HadSince steps first file (λ had. length had ≤ length (file_of file image))
  pub no_longer : (file : File) → length (file_of file image) ≤ length (file_of file (after_steps steps first))
