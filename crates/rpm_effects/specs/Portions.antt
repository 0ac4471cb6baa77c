-- What a command that changes nothing does, argument by argument: the parts of the courses under `plain`, `files` and
-- `keyed` of the page (`rpm_tool`, Theorem.antt), and the law `numbers`.
use Rattle.std.specs.Prelude.{ℕ, ◌+◌, ◌<◌, List, [], ◌∷◌, ◌++◌, Bool, true, false, not, if◌then◌else◌}
use Rattle.std.specs.List.{list_any, filter_map, flat_map}
use Rattle.rpm_effects.specs.Steps.{Step, bearer_of, is_out, Course, idle}

-- the numbers of the packages that steps are for; the line of an argument as a whole is for none
abbrev pub numbers_of_steps : List Step → List ℕ
numbers_of_steps steps = filter_map (λ s. (bearer_of s).number) steps

-- above n, and each greater than the one before it
abbrev pub RisesFrom : ℕ → List ℕ → Type 0
RisesFrom n [] = Unit {0}
RisesFrom n (m ∷ ms) = (n < m) × RisesFrom m ms

-- what an argument does, or one of its packages: steps, and whether the argument fails for it
pub record Portion : Type 0 where
  pub steps : List Step
  pub fails : Bool

-- no step, and nothing fails
abbrev pub nothing : Portion
nothing = record { steps = []; fails = false }

-- a line for which the argument fails
abbrev pub fails : Step → Portion
fails s = record { steps = s ∷ []; fails = true }

-- the steps of an argument's packages: it fails where one of them goes to err, and once for all of them
abbrev pub told_portion : List Step → Portion
told_portion steps = record { steps = steps; fails = list_any (λ s. not (is_out s)) steps }

-- several parts as one, which fails where one of them does
abbrev pub together : List Portion → Portion
together parts = record { steps = flat_map (λ p. p.steps) parts; fails = list_any (λ p. p.fails) parts }

-- an argument before the others
abbrev pub before_others : Portion → Course → Course
before_others p c =
    record { steps = p.steps ++ c.steps; failed = (if p.fails then 1 else 0) + c.failed; changes = c.changes }

-- each argument in turn, by its place and its text
abbrev pub parts_in_turn : (ℕ → List ℕ → Portion) → ℕ → List (List ℕ) → Course
parts_in_turn each j [] = idle
parts_in_turn each j (x ∷ xs) = before_others (each j x) (parts_in_turn each (j + 1) xs)
