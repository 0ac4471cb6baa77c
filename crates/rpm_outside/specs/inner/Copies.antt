-- What copies a disk in memory keeps of its files.
use Rattle.std.specs.Prelude.{◌≡◌, ◌⊎◌, ℕ, ◌≤◌, Bool, true, false, List, [], ◌∷◌, ◌++◌, length, take, Some, slice_get}
use Rattle.rpm_outside.specs.declared.disk.File.{File}
use Rattle.rpm_outside.specs.declared.disk.File.TheVariants.{Pkg, Idx, Log}
use Rattle.rpm_outside.specs.declared.copies.Copy.{Copy}
use Rattle.rpm_outside.specs.declared.copies.Copies.{Copies}
use Rattle.rpm_outside.specs.declared.steps.Pick.{Pick}
use Rattle.rpm_outside.specs.declared.steps.Step.{Step}
use Rattle.rpm_outside.specs.Files.{Files, file_of}
use Rattle.rpm_outside.specs.Past.{held_files, after_steps}
use Rattle.rpm_outside.specs.Picks.{picked_image}

-- a file was written to since its last sync
abbrev pub is_loose : Copies → File → Bool
is_loose copies Pkg = copies.loose_pkg
is_loose copies Idx = copies.loose_idx
is_loose copies Log = copies.loose_log

-- what a write to one file makes of that of another, and what a sync does
abbrev pub is_loose_after_write : File → File → Bool → Bool
is_loose_after_write Pkg Pkg loose = true
is_loose_after_write Idx Idx loose = true
is_loose_after_write Log Log loose = true
is_loose_after_write file other loose = loose

abbrev pub is_loose_after_sync : File → File → Bool → Bool
is_loose_after_sync Pkg Pkg loose = false
is_loose_after_sync Idx Idx loose = false
is_loose_after_sync Log Log loose = false
is_loose_after_sync file other loose = loose

-- one copy more, of these files at this moment
pub record AddsCopy (old new : List Copy) (at : ℕ) (files : Files) : Type 0 where
  pub copy : Copy
  pub is : new ≡ old ++ copy ∷ []
  pub moment : copy.at ≡ at
  pub files_are : held_files copy.files ≡ files

-- a disk has the same copies, or one more
abbrev pub KeepsCopy : List Copy → List Copy → ℕ → Files → Type 0
KeepsCopy old new at files = (new ≡ old) ⊎ AddsCopy old new at files

-- no file is loose
pub record NoneLoose (copies : Copies) : Type 0 where
  pub pkg : copies.loose_pkg ≡ false
  pub idx : copies.loose_idx ≡ false
  pub log : copies.loose_log ≡ false

pub record SyncsFile (old new : Copies) (file : File) (at : ℕ) (files : Files) : Type 0 where
  pub pkg : new.loose_pkg ≡ is_loose_after_sync file Pkg old.loose_pkg
  pub idx : new.loose_idx ≡ is_loose_after_sync file Idx old.loose_idx
  pub log : new.loose_log ≡ is_loose_after_sync file Log old.loose_log
  pub kept : (new.kept.items ≡ old.kept.items) ⊎ (NoneLoose new × AddsCopy old.kept.items new.kept.items at files)

-- a copy is kept, and isn't after this moment
pub record HasCopy (copies : List Copy) (moment : ℕ) (copy : Copy) : Type 0 where
  pub k : ℕ
  pub there : slice_get copies k ≡ Some copy
  pub before : copy.at ≤ moment

-- the first files, or those of a copy
pub record FromCopy (copies : List Copy) (moment at : ℕ) (files : Files) : Type 0 where
  pub copy : Copy
  pub has : HasCopy copies moment copy
  pub at_is : at ≡ copy.at
  pub files_are : files ≡ held_files copy.files

abbrev pub StartsFrom : List Copy → Files → ℕ → ℕ → Files → Type 0
StartsFrom copies first moment at files = ((at ≡ 0) × (files ≡ first)) ⊎ FromCopy copies moment at files

-- the files of a copy are those that were read at its moment, and the only image of it
pub record IsCopy (steps : List Step) (first : Files) (copy : Copy) : Type 0 where
  pub within : copy.at ≤ length steps
  pub read : held_files copy.files ≡ after_steps (take copy.at steps) first
  pub picked : (pick : Pick) → picked_image pick (take copy.at steps) first first ≡ held_files copy.files

-- each copy is one, and a file that isn't loose is in each image as it reads
pub record HoldCopies (copies : Copies) (steps : List Step) (first now : Files) : Type 0 where
  pub each : (k : ℕ) (copy : Copy) → slice_get copies.kept.items k ≡ Some copy → IsCopy steps first copy
  pub durable : (file : File) → is_loose copies file ≡ false → (pick : Pick)
      → file_of file (picked_image pick steps first first) ≡ file_of file now
