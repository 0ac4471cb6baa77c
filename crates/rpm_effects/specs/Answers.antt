-- How far a command went, and what it answers. On it rest `plain` and `files` of the page (`rpm_tool`, Theorem.antt),
-- and `ClosingEnding`, by which `run` puts the closing line after all of it.
use Rattle.std.specs.Prelude.{◌≡◌, ◌⊎◌, ℕ, List, [], ◌∷◌, Bool, true, false, Result, Ok, Err, IfOk}
use Rattle.rpm_outside.specs.Causes.{Rose}
use Rattle.rpm_outside.specs.Sinks.{GainIs, GainedPart}
use Rattle.rpm_pkgdb.specs.declared.slot.Damage.{Damage}
use Rattle.rpm_effects.specs.declared.tally.Halt.{Halt}
use Rattle.rpm_effects.specs.declared.tally.Halt.TheVariants as halt
use Rattle.rpm_effects.specs.declared.answer.Why.{Why}
use Rattle.rpm_effects.specs.declared.answer.Why.TheVariants as why
use Rattle.rpm_effects.specs.Classes.{is_of_asking}
use Rattle.rpm_effects.specs.Endings.{why_of_halt}
use Rattle.rpm_effects.specs.Progress.{Outputs, Through, Progress, Only, CountsFailed}
use Rattle.rpm_effects.specs.Steps.{Bearer, Step, Course, is_out, cut_step}
use Rattle.rpm_effects.specs.Portions.{Portion}

-- how far a call that asks went through these steps: to their end, or to where it was halted
abbrev pub PartProgress : {T : Type 0} → List Step → Result T Halt → Outputs → Outputs → (Bearer → Type 0) → Type 0
PartProgress all (Ok done) old new reads_to = Through all old new
PartProgress all (Err halt) old new reads_to =
    Only (is_of_asking (why_of_halt halt)) (Progress all (why_of_halt halt) old new reads_to)

-- one step that a call goes through, or stops within, or doesn't begin
abbrev pub StepIs : Step → Result Bool Halt → Outputs → Outputs → Type 0
StepIs step (Ok to_out) old new = (is_out step ≡ to_out) × Through (step ∷ []) old new
StepIs step (Err halt.DiskFault) old new = Through [] old new
StepIs step (Err halt.ShelfFault) old new = Through [] old new
StepIs step (Err halt.OutFault) old new = (is_out step ≡ true)
    × ((bytes : ℕ) × Through (cut_step bytes step ∷ []) old new)
StepIs step (Err halt.ErrFault) old new = (is_out step ≡ false)
    × ((bytes : ℕ) × Through (cut_step bytes step ∷ []) old new)
StepIs step (Err halt.NoMemory) old new = Through [] old new
StepIs step (Err others) old new = ⊥

-- a portion was written, or part of it, with the answer whether the argument fails for it
pub record PartIs (part : Portion) (result : Result Bool Halt) (old new : Outputs)
    (reads_to : Bearer → Type 0) : Type 0 where
  pub steps : PartProgress part.steps result old new reads_to
  pub fails : IfOk result (λ fails. part.fails ≡ fails)

-- ---- the answers of a command that opens the database, before the closing line

-- how far a command that asks went through its course, where the database is in order, and how many arguments failed
abbrev pub CommandProgress : Course → Why → Outputs → Outputs → (Bearer → Type 0) → Type 0
CommandProgress course given old new reads_to =
    Only (is_of_asking given) (CountsFailed course.failed given (Progress course.steps given old new reads_to))

-- where the log is malformed: that is told, and not a damage
abbrev pub Misread : ℕ → Why → Type 0
Misread unit given =
    elim given [ why.BadLog u ↦ u ≡ unit | why.DiskFault ↦ Unit {0} | why.NoMemory ↦ Unit {0} | _ ↦ ⊥ ]

-- where the database is damaged
abbrev pub RefusalIs : Damage → Why → Type 0
RefusalIs damage given =
    elim given [ why.Damaged d ↦ d ≡ damage | why.DiskFault ↦ Unit {0} | why.NoMemory ↦ Unit {0} | _ ↦ ⊥ ]

-- ---- the closing line

-- what was done, and then a line to err that went through, or of which err took the first bytes and failed
pub record ClosingEnding (Did : Outputs → Type 0) (line : List ℕ) (new : Outputs) (before now : ℕ) : Type 0 where
  pub mid : Outputs
  pub did : Did mid
  pub closes : (new.out ≡ mid.out) × (GainIs new.err_tells mid.err new.err line
      ⊎ (GainedPart new.err_tells mid.err new.err line × Rose before now))
