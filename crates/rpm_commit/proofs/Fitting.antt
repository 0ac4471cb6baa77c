-- An index that has room for the rows before the changes has room for those after them, where no change is refused.
use Rattle.std.proofs.Common.{◌≡◌, ◌^◌, ◌≤◌, Bool, true, false, None, refl, List, [], ◌∷◌, Option, Some, arith}
use Rattle.std.specs.Prelude.{◌==◌, ◌&&◌, if◌then◌else◌, is_none, unwrap_or, nat_lt}
use Rattle.std.proofs.lemmas.Bool.Decides.{nat_tests}
use Rattle.rpm_commit.proofs.Vocabulary.{apply, apply_all, Change, limit_of_command, limit_of_changes, Halt, is_large, is_spent, units_needed_after, next_store, option_or}
use Rattle.rpm_commit.proofs.Vocabulary.{limit_of_change, rows, State, Store, units_for}
use Rattle.rpm_effects.specs.declared.tally.Halt.TheVariants as halt

abbrev Fits : State → Type 0
Fits s = units_for (rows s.packages) ≤ 2 ^ 28

-- an answer that isn't given, and what comes after it
behind : (b : Bool) (h : Halt) (o : Option Halt) → (if b then Some h else o) ≡ None → (b ≡ false) × (o ≡ None)
behind true h o is = absurd cc
behind false h o is = (refl, is)

either_none : (a b : Option Halt) → option_or a b ≡ None → (a ≡ None) × (b ≡ None)
either_none None b is = (refl, is)
either_none (Some h) b is = absurd cc

one_fits : (s : State) (v : Store) (c : Change) → limit_of_change true s v c ≡ None → Fits (apply c s)
one_fits s v c none =
    let first = behind (is_spent s c) halt.NumbersSpent _ none in
    let second = behind (v.generation == 4294967295) halt.GenerationSpent _ first.1 in
    let third = behind (is_none (next_store c v)) halt.StoreFull _ second.1 in
    let small : nat_lt (2 ^ 28) (units_needed_after s c) ≡ false = (behind (true && is_large s c) (halt.IndexFull (units_needed_after s c)) None third.1).0 in
    grind (arith, nat_tests, small)

all_fit : (cs : List Change) (s : State) (v : Store) → limit_of_changes true s v cs ≡ None → Fits s → Fits (apply_all cs s)
all_fit [] s v none fits = fits
all_fit (c ∷ cs) s v none fits =
    let parts = either_none (limit_of_change true s v c) (limit_of_changes true (apply c s) (unwrap_or (next_store c v) v) cs) none in
    all_fit cs (apply c s) (unwrap_or (next_store c v) v) parts.1 (one_fits s v c parts.0)

pub limit_fits : (made : Bool) (s : State) (v : Store) (cs : List Change) → limit_of_command made s v cs ≡ None → Fits s → Fits (apply_all cs s)
limit_fits made s v cs none fits =
    all_fit cs s v (behind (made && nat_lt (2 ^ 28) (units_for (rows s.packages))) (halt.IndexFull (units_for (rows s.packages))) _ none).1 fits
