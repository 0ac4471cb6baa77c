-- What a command does, step by step.
use Rattle.std.specs.Prelude.{ℕ, ◌+◌, List, [], ◌∷◌, ◌++◌, take, Bool, true, false, Option, Some, None}
use Rattle.rpm_db.specs.Changes.{Change, apply}
use Rattle.rpm_db.specs.State.{State}

-- whom a step is for: an argument, counted from 0, and one of its packages, or the argument as a whole
pub record Bearer : Type 0 where
  pub argument : ℕ
  pub number : Option ℕ

-- a step for a package of an argument
abbrev pub bearer : ℕ → ℕ → Bearer
bearer j n = record { argument = j; number = Some n }

-- an argument as a whole, without a package
abbrev pub whole_step : ℕ → Bearer
whole_step j = record { argument = j; number = None }

-- bytes to out, or to err
pub data Step : Type 0 where
  ToOut ToErr : Bearer → List ℕ → Step

-- a step is for this argument and this package
abbrev pub bearer_of : Step → Bearer
bearer_of s = elim s [ ToOut for bytes ↦ for | ToErr for bytes ↦ for ]

-- what a step gives to standard output
abbrev pub out_bytes : Step → List ℕ
out_bytes s = elim s [ ToOut for bytes ↦ bytes | ToErr for bytes ↦ [] ]

-- what a step gives to standard error
abbrev pub err_bytes : Step → List ℕ
err_bytes s = elim s [ ToOut for bytes ↦ [] | ToErr for bytes ↦ bytes ]

-- whether a step goes to standard output
abbrev pub is_out : Step → Bool
is_out s = elim s [ ToOut for bytes ↦ true | ToErr for bytes ↦ false ]

-- the first n bytes of a step
abbrev pub cut_step : ℕ → Step → Step
cut_step n s = elim s [ ToOut for bytes ↦ ToOut for (take n bytes) | ToErr for bytes ↦ ToErr for (take n bytes) ]

-- the steps of a command, how many of its arguments fail, and its changes: they come last, all as one
pub record Course : Type 0 where
  pub steps : List Step
  pub failed : ℕ
  pub changes : List Change

-- nothing printed, nothing failed, nothing changed
abbrev pub idle : Course
idle = record { steps = []; failed = 0; changes = [] }

-- one course and then another
abbrev pub joined_courses : Course → Course → Course
joined_courses a b =
    record { steps = a.steps ++ b.steps; failed = a.failed + b.failed; changes = a.changes ++ b.changes }

-- a change, and nothing else
abbrev pub course_of_change : Change → Course
course_of_change change = record { steps = []; failed = 0; changes = change ∷ [] }

-- a line for which the argument fails
abbrev pub course_of_failure : Step → Course
course_of_failure step = record { steps = step ∷ []; failed = 1; changes = [] }

-- the state after several changes, one after the other
abbrev pub apply_all : List Change → State → State
apply_all [] s = s
apply_all (c ∷ cs) s = apply_all cs (apply c s)

-- each argument in turn, by its place: each begins with the state that the changes of those before it leave
abbrev pub in_turn : {X : Type 0} → (State → ℕ → X → Course) → State → ℕ → List X → Course
in_turn each s j [] = idle
in_turn each s j (x ∷ xs) = joined_courses (each s j x) (in_turn each (apply_all (each s j x).changes s) (j + 1) xs)
