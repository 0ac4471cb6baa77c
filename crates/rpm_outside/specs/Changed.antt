-- Files of which one range was written.
use Rattle.std.specs.Prelude.{◌≡◌, ◌⊎◌, ℕ, ◌<◌, ◌≤◌, max, length}
use Rattle.rpm_outside.specs.declared.disk.Disk as disk
use Rattle.rpm_outside.specs.declared.disk.File.{File}
use Rattle.rpm_outside.specs.Files.{Files, file_of, with_file, unit_at}
use Rattle.rpm_outside.specs.Leaves.{CrashLeavesOnly}

-- one file is another in this range alone, and no longer than its end
pub record IsChangedInRange (file : File) (first end : ℕ) (old new : Files) : Type 0 where
  pub others : new ≡ with_file file (file_of file new) old
  pub each : (i : ℕ) → (i < first) ⊎ (end ≤ i) → unit_at (file_of file new) i ≡ unit_at (file_of file old) i
  pub no_shorter : length (file_of file old) ≤ length (file_of file new)
  pub no_longer : length (file_of file new) ≤ max (length (file_of file old)) end

-- one of these images became this one by a change within a range of a file
abbrev pub WasChanged : File → ℕ → ℕ → (Files → Type 0) → Files → Type 0
WasChanged file first end images image = (from : Files) × images from × IsChangedInRange file first end from image

module _ {D : Type 0} (g : disk.Ghosts D) where
  -- what a crash may leave since a write to a range began
  abbrev pub CrashChanges : File → ℕ → ℕ → D → D → Type 0
  CrashChanges file first end old new =
      CrashLeavesOnly g old new (WasChanged file first end (g.left_since old (g.moment old)))
