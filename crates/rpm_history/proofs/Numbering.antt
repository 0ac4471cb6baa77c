-- The numbers that command lines give to new packages rise, and each image that a crash leaves has a next number above them.
use Rattle.std.proofs.Common.{◌≡◌, ℕ, Bool, true, false, List, [], ◌++◌, refl, sym, ap, subst, ⊎_elim}
use Rattle.std.specs.Prelude.{Result, Ok, Err, if◌then◌else◌}
use Rattle.rpm_history.proofs.Vocabulary.{after, Course, Damage, Files, given_in, given_on, idle, is_done, IsAhead, Moves, next, numbers_given, reopened_files}
use Rattle.rpm_history.proofs.Vocabulary.{RiseWithin, State, state, Store, store, Why}
use Rattle.rpm_history.proofs.Ahead.{Ahead, Fits, ahead_of, changes_rise, rise_least, rise_later, rise_then}
use Rattle.rpm_history.proofs.Histories.{moves_are}

-- ---- what is given

-- nothing, by a command that changes nothing
pub given_nothing : (course : State → Course) → ((s : State) → course s ≡ idle) → (files : Files) (w : Why) → given_on course files w ≡ []
given_nothing course nothing files w = by_done (is_done w) (store (reopened_files files).pkg)
  where
    by_done : (b : Bool) (r : Result Store Damage) → (if b then given_in course (reopened_files files).pkg r else []) ≡ []
    by_done true (Ok value) =
        ap (λ (c : Course). numbers_given c.changes (state (reopened_files files).pkg value)) (nothing (state (reopened_files files).pkg value))
    by_done true (Err damage) = refl
    by_done false r = refl

pub given_undone : (course : State → Course) (files : Files) (w : Why) → is_done w ≡ false → given_on course files w ≡ []
given_undone course files w undone = rw undone refl

pub given_done : (course : State → Course) (files : Files) (w : Why) (value : Store) → store (reopened_files files).pkg ≡ Ok value → is_done w ≡ true
    → given_on course files w
    ≡ numbers_given (course (state (reopened_files files).pkg value)).changes (state (reopened_files files).pkg value)
given_done course files w value undamaged done = rw (done, undamaged) refl

-- ---- to where a line moves

-- the numbers given so far rise from this one on to the next number of such a state, which is its field
abbrev pub Numbered : ℕ → List ℕ → State → Type 0
Numbered from given t = IsAhead t × RiseWithin from given (next t)

module _ (course : State → Course) (fits : (s : State) → Ahead s → Fits (course s).changes s) (from : ℕ) (given : List ℕ) where
  pub numbered_made : (s : State) → Numbered from given s → Numbered from (given ++ numbers_given (course s).changes s) (after course s)
  numbered_made s is =
      let rises = changes_rise (course s).changes s is.0 (fits s (ahead_of s is.0)) in
      (rises.1, rise_then from (next s) (next (after course s)) given (numbers_given (course s).changes s) is.1 rises.0)

  pub numbered_moved : (w : Why) (s t : State) → Numbered from given s → Moves w (after course s) s t → Numbered from given t
  numbered_moved w s t is moves = ⊎_elim
      (λ same. subst (λ (u : State). Numbered from given u) (sym same) is)
      (λ made. subst (λ (u : State). Numbered from given u) (sym made) (
      let rises = changes_rise (course s).changes s is.0 (fits s (ahead_of s is.0)) in (
        rises.1,
        rise_later from (next s) (next (after course s)) given (rise_least (next s) (next (after course s)) (numbers_given (course s).changes s)
            rises.0) is.1,
      )))
      ((moves_are w s (after course s)).3 t moves)
