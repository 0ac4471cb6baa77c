-- What one call of `run` did on the disk, and by its words: the page (`rpm_tool`, Theorem.antt) says all of it.
use Rattle.std.specs.Prelude.{ℕ, List}
use Rattle.rpm_outside.specs.declared.disk.Disk as disk
use Rattle.rpm_effects.specs.Progress.{Outputs}
use Rattle.rpm_effects.specs.declared.answer.Why.{Why}

-- One run: its words, how it ended, how many changes it made, the disk as it was found and as it was left, and what out
-- and err had taken before it and after it.
pub record Run {D : Type 0} (d : disk.Ghosts D) : Type 0 where
  pub words : List (List ℕ)
  pub why : Why
  pub changes : ℕ
  pub found : D
  pub left : D
  pub before : Outputs
  pub after : Outputs

-- the run with these words and this ending, of a disk as it was found and as it was left, and of both outputs
abbrev pub ran : {D : Type 0} (d : disk.Ghosts D) → List (List ℕ) → Why → ℕ → D × D → Outputs × Outputs → Run d
ran d words why n disks outs =
    record { words = words; why = why; changes = n; found = disks.0; left = disks.1; before = outs.0; after = outs.1 }
