-- What a record of writes and syncs leaves.
use Rattle.std.specs.Prelude.{◌++◌, ◌/◌, Bool, if◌then◌else◌, Vec, ◌≡◌, ℕ, ◌≤◌, List, [], ◌∷◌, length, take}
use Rattle.std.specs.declared.alloc.Global.{Global}
use Rattle.rpm_outside.specs.declared.disk.File.{File}
use Rattle.rpm_outside.specs.declared.steps.Step.{Step}
use Rattle.rpm_outside.specs.declared.steps.Step.TheVariants.{Wrote, Synced}
use Rattle.rpm_outside.specs.declared.steps.Held.{Held}
use Rattle.rpm_outside.specs.Files.{Units, Files, file_of, with_file, with_units}
use Rattle.rpm_outside.specs.Crash.{TornFile}

-- the files that a value holds
abbrev pub held_files : Held → Files
held_files held = record { pkg = held.pkg.items; idx = held.idx.items; log = held.log.items }

-- what is read after a step
abbrev pub after_step : Step → Files → Files
after_step (Wrote file at units) files = with_file file (with_units at units.items (file_of file files)) files
after_step (Synced file) files = files

-- the files after a list of steps
abbrev pub after_steps : List Step → Files → Files
after_steps [] files = files
after_steps (step ∷ steps) files = after_steps steps (after_step step files)

-- what a crash may leave after a step, where it may leave these images before it and this is read
abbrev pub LeftByStep : Step → Files → (Files → Type 0) → Files → Type 0
LeftByStep (Wrote file at units) files images image = (from : Files) × images from
    × TornFile file at units.items from image
LeftByStep (Synced file) files images image = images image × (file_of file image ≡ file_of file files)

-- what a crash leaves after a list of steps
abbrev pub LeftBySteps : List Step → Files → (Files → Type 0) → Files → Type 0
LeftBySteps [] files images = images
LeftBySteps (step ∷ steps) files images = LeftBySteps steps (after_step step files) (LeftByStep step files images)

-- the images of the moment after these steps from durable files
abbrev pub Images : List Step → Files → Files → Type 0
Images steps first = LeftBySteps steps first (λ image. image ≡ first)

-- the images of the moments since t
abbrev pub ImagesSince : List Step → Files → ℕ → Files → Type 0
ImagesSince steps first t image = (k : ℕ) × (t ≤ k) × (k ≤ length steps) × Images (take k steps) first image

-- the first half of these units, or all
abbrev pub part_of : Bool → Units → Units
part_of half units = if half then take (length units / 2) units else units

-- a write of these units was done, and is kept as a step
pub record WroteOnce (old new : Files) (past steps : List Step) (file : File) (at : ℕ) (units : Units) : Type 0 where
  pub kept : Vec (List ℕ) Global
  pub is : kept.items ≡ units
  pub step : steps ≡ past ++ Wrote file at kept ∷ []
  pub files : new ≡ with_file file (with_units at units (file_of file old)) old

-- nothing was done, and nothing is kept
pub record DidNothing (old new : Files) (past steps : List Step) : Type 0 where
  pub files : new ≡ old
  pub none : steps ≡ past

-- a write of these units, which is none where there are no units
abbrev pub WroteAny : Files → Files → List Step → List Step → File → ℕ → Units → Type 0
WroteAny old new past steps file at [] = DidNothing old new past steps
WroteAny old new past steps file at (unit ∷ units) = WroteOnce old new past steps file at (unit ∷ units)

-- a file was made durable, and that is kept as a step
pub record DurableOnce (old new : Files) (past steps : List Step) (file : File) : Type 0 where
  pub files : new ≡ old
  pub step : steps ≡ past ++ Synced file ∷ []

-- what a crash may leave of an image over one step
abbrev pub StepsTo : Step → Files → Files → Files → Type 0
StepsTo (Wrote file at units) files old new = TornFile file at units.items old new
StepsTo (Synced file) files old new = new ≡ with_file file (file_of file files) old
