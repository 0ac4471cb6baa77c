-- What a crash may leave since a moment.
use Rattle.std.specs.Prelude.{◌⊎◌, ℕ, ◌≤◌}
use Rattle.rpm_outside.specs.declared.disk.Disk as disk
use Rattle.rpm_outside.specs.Files.{Files}

-- a crash at any moment since old leaves files with P
pub record CrashLeavesOnly {D : Type 0} (g : disk.Ghosts D) (old new : D) (P : Files → Type 0) : Type 0 where
  pub later : g.moment old ≤ g.moment new
  pub each : (image : Files) → g.left_since new (g.moment old) image → P image
  -- for a run that began earlier
  pub before : (t : ℕ) (image : Files) → t ≤ g.moment old → g.left_since new t image → g.left_since old t image
      ⊎ P image
