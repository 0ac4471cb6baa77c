-- The argument at a place, and those after it.
use Rattle.std.proofs.Common.{◌≡◌, ℕ, ◌+◌, ◌<◌, ◌≤◌, List, length, drop, get_or, add-one, refl, ap, ◌∙◌}
use Rattle.std.proofs.lemmas.List.{drop_all}
use Rattle.std.proofs.Math.Seq.{drop-cons}
use Rattle.rpm_change.proofs.Vocabulary.{apply_all, Course, idle, in_turn, joined_courses, State}

-- the argument at a place and those after it
pub turn_next : {X : Type 0} (each : State → ℕ → X → Course) (xs : List X) (k : ℕ) (d : X) (t u : State) → k < length xs
    → u ≡ apply_all (each t k (get_or xs k d)).changes t
    → in_turn each t k (drop k xs) ≡ joined_courses (each t k (get_or xs k d)) (in_turn each u (k + 1) (drop (k + 1) xs))
turn_next each xs k d t u below is =
    ap (in_turn each t k) (drop-cons xs k d below) ∙ rw (← is, add-one k) refl

pub turn_none : {X : Type 0} (each : State → ℕ → X → Course) (xs : List X) (k : ℕ) (t : State) → length xs ≤ k → in_turn each t k (drop k xs) ≡ idle
turn_none each xs k t past = ap (in_turn each t k) (drop_all k xs past)
