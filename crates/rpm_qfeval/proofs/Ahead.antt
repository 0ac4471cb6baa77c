-- The first text of those that are left.
use Rattle.std.proofs.Common.{◌≡◌, ℕ, zero, suc, ◌+◌, List, [], ◌∷◌, drop, Option, Some, None, refl, sym, ap, ◌∙◌, arith}
use Rattle.std.specs.Prelude.{slice_get}
use Rattle.rpm_qfeval.proofs.Vocabulary.{option_map, or_none, YieldsFirstBy}
use Rattle.rpm_qfeval.proofs.Steps.{begins_with}

pub get_none : {X : Type 0} (xs : List X) (i : ℕ) → drop i xs ≡ [] → slice_get xs i ≡ None
get_none [] i e = refl
get_none (x ∷ xs) zero e = absurd cc
get_none (x ∷ xs) (suc i) e = get_none xs i e

none_behind : {X : Type 0} (xs : List X) (i : ℕ) → drop i xs ≡ [] → drop (i + 1) xs ≡ []
none_behind [] zero e = refl
none_behind [] (suc i) e = let step : suc i + 1 ≡ suc (i + 1) = omega arith in rw step refl
none_behind (x ∷ xs) zero e = absurd cc
none_behind (x ∷ xs) (suc i) e = let step : suc i + 1 ≡ suc (i + 1) = omega arith in rw step (none_behind xs i e)

module _ {A : Type 0} (view : A → List ℕ) where
  pub one_ahead : (all : List (List ℕ)) (next : Option A) (old new : List (List ℕ)) (place : ℕ) → old ≡ drop (place + 1) all
      → YieldsFirstBy {S = List (List ℕ)} {A = A} {B = List ℕ} view (λ s. s) old next new
      → (option_map view next ≡ slice_get all (place + 1)) × (new ≡ drop (place + 1 + 1) all)
  one_ahead all None old new place is y =
      let none : drop (place + 1) all ≡ [] = sym is ∙ y.0 in
      (sym (get_none all (place + 1) none), y.1 ∙ sym (none_behind all (place + 1) none))
  one_ahead all (Some x) old new place is y =
      let b = begins_with all (place + 1) (view x) new (sym is ∙ y) in
      (sym b.here, b.behind)

-- the text of a round is that at the place where the reading stands
pub text_here : (all self : List (List ℕ)) (place round : ℕ) (o : Option (List ℕ)) → all ≡ self → place ≡ round → slice_get all place ≡ o
    → or_none o ≡ or_none (slice_get self round)
text_here all self place round o e f h =
    let same : slice_get self round ≡ slice_get all place = rw (e, f) refl in
    ap or_none (sym h ∙ sym same)
