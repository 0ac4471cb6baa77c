-- A line for which an argument fails, as a part of a command that changes nothing.
use Rattle.std.proofs.Common.{ℕ, List, Result, Ok, Err, refl, inl, inr}
use Rattle.std.specs.FinMap as finite
use Rattle.rpm_outside.specs.declared.sink.Sink as sink
use Rattle.rpm_outside.specs.declared.buffered.Buffered.{Buffered}
use Rattle.rpm_db.specs.State.{State}
use Rattle.rpm_effects.specs.declared.tally.Tally.{Tally}
use Rattle.rpm_effects.specs.declared.tally.Halt.{Halt}
use Rattle.rpm_effects.specs.declared.tally.Halt.TheVariants as halt
use Rattle.rpm_effects.specs.Answers.{PartIs}
use Rattle.rpm_effects.specs.Lines.{Fails, answer_of_line}
use Rattle.rpm_effects.specs.Portions.{fails}
use Rattle.rpm_effects.specs.Progress.{Anywhere}
use Rattle.rpm_effects.specs.Shown.{ErrTakes}
use Rattle.rpm_effects.specs.Steps.{Bearer, ToErr}

no_packages : State
no_packages = record { packages = finite.empty; field = 0 }

module _ {E : Type 0} (e : sink.Ghosts E) {line : List ℕ} {x y : Buffered E} where
  -- one part of the command, whole, cut off or not begun
  pub line_part : (r : Result Tally Halt) → Fails e line x y r → (for : Bearer)
      → ErrTakes e (λ old new. PartIs (fails (ToErr for line)) (answer_of_line r) old new Anywhere) x y
  line_part (Ok tally) f for = λ ot o. record { steps = (f.ended for no_packages ot o).steps; fails = refl }
  line_part (Err halt.ErrFault) f for = λ ot o. record { steps = f.ended for no_packages ot o; fails = tt }
  line_part (Err halt.NoMemory) f for = λ ot o. record { steps = f.ended for no_packages ot o; fails = tt }
  line_part (Err others) f for = absurd (elim f.kinds [ inl is ↦ cc | inr is ↦ cc ])
