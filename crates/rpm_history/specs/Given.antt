-- The numbers that changes give to new packages: `numbers` of `run_each` rests on it.
use Rattle.std.specs.Prelude.{◌≡◌, ℕ, ◌+◌, ◌≤◌, List, [], ◌∷◌, if◌then◌else◌, Result, Ok, Err}
use Rattle.rpm_outside.specs.Files.{Units, Files}
use Rattle.rpm_outside.specs.Logs.{reopened_files}
use Rattle.rpm_pkgdb.specs.declared.slot.Damage.{Damage}
use Rattle.rpm_pkgdb.specs.Store.{Store, store}
use Rattle.rpm_db.specs.Changes.{Change, Add, apply, next}
use Rattle.rpm_db.specs.State.{State, state}
use Rattle.rpm_effects.specs.Steps.{Course}
use Rattle.rpm_effects.specs.declared.answer.Why.{Why}
use Rattle.rpm_effects.specs.Classes.{is_done}

-- the field is the number of the next package, as it is where there are no packages and the field is 1
abbrev pub IsAhead : State → Type 0
IsAhead s = next s ≡ s.field

-- a list of changes gives these numbers, one after the other
abbrev pub numbers_given : List Change → State → List ℕ
numbers_given [] s = []
numbers_given (Add bytes ∷ changes) s = next s ∷ numbers_given changes (apply (Add bytes) s)
numbers_given (other ∷ changes) s = numbers_given changes (apply other s)

-- a course gives these numbers, from the state that a Packages.db says
abbrev pub given_in : (State → Course) → Units → Result Store Damage → List ℕ
given_in course pkg (Ok value) = numbers_given (course (state pkg value)).changes (state pkg value)
given_in course pkg (Err damage) = []

-- acknowledged: none, unless the command was done
abbrev pub given_on : (State → Course) → Files → Why → List ℕ
given_on course files why = if is_done why then given_in course (reopened_files files).pkg (store (reopened_files files).pkg)
    else []

-- a list of numbers rises from one number on, each once, and all are below another
abbrev pub RiseWithin : ℕ → List ℕ → ℕ → Type 0
RiseWithin from [] to = from ≤ to
RiseWithin from (n ∷ ns) to = (from ≤ n) × RiseWithin (n + 1) ns to
