-- What erasing packages does.
use Rattle.std.specs.Prelude.{ℕ, List, codes, ◌++◌, decimal, Some, None}
use Rattle.std.specs.FinMap as finite
use Rattle.rpm_db.specs.Changes.{Erase}
use Rattle.rpm_db.specs.State.{State}
use Rattle.rpm_effects.specs.declared.tally.Halt.{Halt}
use Rattle.rpm_effects.specs.declared.tally.Halt.TheVariants as halt
use Rattle.rpm_effects.specs.Steps.{Course, ToErr, whole_step, course_of_change, course_of_failure, in_turn}

-- the line of a number that no package has
unfoldable pub missing_line : ℕ → List ℕ
missing_line n = codes "error: record " ++ decimal n ++ codes " could not be read\n"

-- each number's package is erased, or a line tells that there is none: so of a number that is named twice
abbrev pub erase : State → List ℕ → Course
erase s numbers = in_turn (λ t j n. elim (finite.get t.packages n) [
  | None ↦ course_of_failure (ToErr (whole_step j) (missing_line n))
  | Some held ↦ course_of_change (Erase n)
]) s 0 numbers

-- erasing takes no new number and no room in the store, reads no shelf and writes no line to out
abbrev pub IsOfErasing : Halt → Type 0
IsOfErasing halt.NumbersSpent = ⊥
IsOfErasing halt.StoreFull = ⊥
IsOfErasing halt.ShelfFault = ⊥
IsOfErasing halt.OutFault = ⊥
IsOfErasing others = Unit {0}
