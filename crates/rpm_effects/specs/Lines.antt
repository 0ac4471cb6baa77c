-- A line for which an argument fails.
use Rattle.std.specs.Prelude.{◌≡◌, ℕ, List, Bool, true, IfOk, IfErr, Result, Ok, Err}
use Rattle.rpm_outside.specs.declared.sink.Sink as sink
use Rattle.rpm_outside.specs.declared.buffered.Buffered.{Buffered}
use Rattle.rpm_db.specs.State.{State}
use Rattle.rpm_effects.specs.declared.tally.Tally.{Tally}
use Rattle.rpm_effects.specs.declared.tally.Halt.{Halt}
use Rattle.rpm_effects.specs.declared.tally.Halt.TheVariants as halt
use Rattle.rpm_effects.specs.Progress.{IsOfLines}
use Rattle.rpm_effects.specs.Hands.{Hand}
use Rattle.rpm_effects.specs.Steps.{Bearer, ToErr, course_of_failure}
use Rattle.rpm_effects.specs.Shown.{EndedOnErr}

-- a line goes to err, for whomever it is, and one argument fails; or the call says why it can't be written
pub record Fails {E : Type 0} (e : sink.Ghosts E) (line : List ℕ) (old new : Buffered E)
    (r : Result Tally Halt) : Type 0 where
  pub ended : (for : Bearer) (s : State) → EndedOnErr e old new (course_of_failure (ToErr for line)) s s r
  pub one : IfOk r (λ tally. tally ≡ record { failed = 1; changes = 0 })
  pub kinds : IfErr r IsOfLines
  pub err : Hand e (r ≡ Err halt.ErrFault) old new

-- the part that such a line is of a command that changes nothing: its argument fails
abbrev pub answer_of_line : Result Tally Halt → Result Bool Halt
answer_of_line (Ok tally) = Ok true
answer_of_line (Err halt) = Err halt
