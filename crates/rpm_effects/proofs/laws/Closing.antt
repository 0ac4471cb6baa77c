-- The line that closes a command.
use Rattle.std.proofs.Common.{◌≡◌, ◌⊎◌, ℕ, List}
use Rattle.rpm_outside.specs.Causes.{Rose}
use Rattle.rpm_outside.specs.Sinks.{GainIs, GainedPart}
use Rattle.rpm_effects.specs.Progress.{Outputs}

-- a line to err that went through, or of which err took the first bytes and failed
abbrev pub Closes : List ℕ → Outputs → Outputs → ℕ → ℕ → Type 0
Closes line old new before now = (new.out ≡ old.out)
    × (GainIs new.err_tells old.err new.err line ⊎ (GainedPart new.err_tells old.err new.err line
    × Rose before now))
