-- How the exercise ends.
use Rattle.std.specs.Prelude.{◌≡◌, ℕ, Option, Some, None, Result, Ok, Err}
use Rattle.rpm_outside.specs.Files.{Files}
use Rattle.rpm_db.specs.Reaches.{ReachesMade}
use Rattle.rpm_select.specs.declared.picked.PickFault.{PickFault}
use Rattle.rpm_effects.specs.Endings.{halt_of_pick}
use Rattle.rpm_effects.specs.declared.tally.Tally.{Tally}
use Rattle.rpm_effects.specs.declared.tally.Halt.{Halt}
use Rattle.rpm_effects.specs.declared.tally.Halt.TheVariants as halt
use Rattle.rpm_exercise.specs.declared.running.ExerciseFault.{ExerciseFault}
use Rattle.rpm_exercise.specs.declared.running.ExerciseFault.TheVariants.{NotEmpty, Halted}

-- a question that failed halts the exercise with this
abbrev pub stop_of : {X : Type 0} → Result X PickFault → Option Halt
stop_of (Ok x) = None
stop_of (Err fault) = Some (halt_of_pick fault)

-- what asking a sound index is stopped by
abbrev pub IsOfQuestion : Halt → Type 0
IsOfQuestion halt.DiskFault = Unit {0}
IsOfQuestion halt.NoMemory = Unit {0}
IsOfQuestion others = ⊥

-- a halt is one of a question, which may blame any unit of the index
abbrev pub IsOfAsking : Halt → Type 0
IsOfAsking (halt.BadIndex unit) = Unit {0}
IsOfAsking halt.DiskFault = Unit {0}
IsOfAsking halt.NoMemory = Unit {0}
IsOfAsking others = ⊥

-- the exercise reads no shelf and writes no line to err
abbrev pub IsOfExercise : Halt → Type 0
IsOfExercise halt.ShelfFault = ⊥
IsOfExercise halt.ErrFault = ⊥
IsOfExercise others = Unit {0}

-- what an exercise that was begun answers
abbrev pub OnceBegun : (Result Tally Halt → Type 0) → Result Tally ExerciseFault → Type 0
OnceBegun P (Ok tally) = P (Ok tally)
OnceBegun P (Err (Halted h)) = P (Err h)
OnceBegun P (Err (NotEmpty number)) = Unit {0}

-- an exercise wasn't begun: there is this package, the one of the least number
abbrev pub IsRefused : (Option ℕ → Type 0) → Result Tally ExerciseFault → Type 0
IsRefused IsFirst (Ok tally) = IsFirst None
IsRefused IsFirst (Err (Halted h)) = IsFirst None
IsRefused IsFirst (Err (NotEmpty number)) = IsFirst (Some number)

-- a property holds of files whose index was rebuilt of these: it has the units that it had, or those that its rows
-- need
pub record HoldsAfterRebuild (needed : ℕ) (P : Files → Type 0) (old : Files) : Type 0 where
  pub mid : Files
  pub same : mid.pkg ≡ old.pkg
  pub made : ReachesMade needed old.idx mid.idx
  pub holds : P mid
