-- The changes that the exercise makes, round by round.
use Rattle.std.specs.Prelude.{◌≢◌, ℕ, ◌+◌, ◌-◌, ◌%◌, ◌==◌, List, [], ◌∷◌, ◌++◌, false, if◌then◌else◌}
use Rattle.std.specs.List.{flat_map, range_with_len}
use Rattle.rpm_header.specs.Laid.{laid_out}
use Rattle.rpm_db.specs.Changes.{Change, Add, Put, Erase, next}
use Rattle.rpm_db.specs.State.{State}
use Rattle.rpm_effects.specs.declared.tally.Halt.{Halt}
use Rattle.rpm_effects.specs.declared.tally.Halt.TheVariants as halt
use Rattle.rpm_exercise.specs.Headers.{generated_items}
use Rattle.rpm_effects.specs.Steps.{Course}
use Rattle.rpm_exercise.specs.declared.rounds.Round.{Round}
use Rattle.rpm_exercise.specs.declared.rounds.Round.TheVariants as round

-- the bytes of header i with the leading number m
abbrev pub made_blob : ℕ → ℕ → List ℕ
made_blob i m = laid_out false (generated_items i m)

-- what a round does with header i, where b is the number before the first that is added
abbrev pub round_turn : Round → ℕ → ℕ → List Change
round_turn round.Adding b i = Add (made_blob i 1) ∷ []
round_turn round.Replacing b i = if i % 3 == 0 then Put (b + i) (made_blob i 2) ∷ [] else []
round_turn round.Erasing b i = if i % 5 == 0 then Erase (b + i) ∷ [] else []

-- a round goes through the headers from 1 to n
abbrev pub round_changes : Round → ℕ → ℕ → List Change
round_changes r b n = flat_map (round_turn r b) (range_with_len 1 n)

-- all are added, then each third is replaced, then each fifth is erased
abbrev pub changes_after : ℕ → ℕ → List Change
changes_after b n =
    round_changes round.Adding b n ++ (round_changes round.Replacing b n ++ round_changes round.Erasing b n)

-- an exercise makes these changes from a state
unfoldable pub changes : ℕ → State → List Change
changes n s = changes_after (next s - 1) n

-- ---- what making changes leaves

-- a course makes these changes and no others, without a line and without a fault
abbrev pub course_of_changes : List Change → Course
course_of_changes changes = record { steps = []; failed = 0; changes = changes }

-- a change reads no shelf and writes no line
abbrev pub IsOfChanges : Halt → Type 0
IsOfChanges h = (h ≢ halt.ShelfFault) × (h ≢ halt.OutFault) × (h ≢ halt.ErrFault)
