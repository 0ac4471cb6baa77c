-- What a run of calls does that may change both files.
use Rattle.std.specs.Prelude.{◌≡◌, IsTrue, ℕ, ◌≤◌}
use Rattle.rpm_outside.specs.declared.disk.Disk as disk
use Rattle.rpm_outside.specs.declared.disk.File.{File}
use Rattle.rpm_outside.specs.declared.disk.File.TheVariants.{Log}
use Rattle.rpm_outside.specs.Files.{Files}
use Rattle.rpm_outside.specs.Leaves.{CrashLeavesOnly}

-- the log stays
abbrev pub SameLog : Files → Files → Type 0
SameLog from image = image.log ≡ from.log

-- all three files stay
abbrev pub SameFiles : Files → Files → Type 0
SameFiles from image = image ≡ from

-- an image that came so of one of these
pub record ImageFrom (P : Files → Files → Type 0) (images : Files → Type 0) (image : Files) : Type 0 where
  pub from : Files
  pub was : images from
  pub came : P from image

-- a call read no byte of the log
pub record ReadsNoLog (old new : File → ℕ) : Type 0 where
  pub no_less : (f : File) → old f ≤ new f
  pub log : new Log ≤ old Log

-- the files, and each image since the start, come so of those before
pub record Runs {D : Type 0} (g : disk.Ghosts D) (P : Files → Files → Type 0) (old new : D) : Type 0 where
  pub reads_as : IsTrue g.tells → P (g.files old) (g.files new)
  pub now : IsTrue g.tells → (image : Files) → g.left_since new (g.moment new) image
      → ImageFrom P (g.left_since old (g.moment old)) image
  pub any_moment : IsTrue g.tells → CrashLeavesOnly g old new (ImageFrom P (g.left_since old (g.moment old)))
  pub reads : ReadsNoLog (g.bytes_read old) (g.bytes_read new)
  pub goes_on : g.follows old new
