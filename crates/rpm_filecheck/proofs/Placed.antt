-- A list that is gone through by place.
use Rattle.std.proofs.Common.{◌≡◌, ℕ, zero, suc, ◌+◌, ◌<◌, List, [], ◌∷◌, ◌++◌, length, drop, Some, None, refl, sym, ap, ◌∙◌, arith, append_assoc, append-nil}
use Rattle.std.specs.Prelude.{slice_get}
use Rattle.rpm_filecheck.proofs.Vocabulary.{concat}

drop_here : {X : Type 0} (xs : List X) (i : ℕ) (x : X) → slice_get xs i ≡ Some x → drop i xs ≡ x ∷ drop (i + 1) xs
drop_here [] i x e = absurd cc
drop_here (y ∷ xs) zero x e = let is : y ≡ x = cc in ap (λ z. z ∷ xs) is
drop_here (y ∷ xs) (suc i) x e = let step : suc i + 1 ≡ suc (i + 1) = omega arith in rw step (drop_here xs i x e)

drop_none : {X : Type 0} (xs : List X) (i : ℕ) → slice_get xs i ≡ None → drop i xs ≡ []
drop_none [] zero e = refl
drop_none [] (suc i) e = refl
drop_none (x ∷ xs) zero e = absurd cc
drop_none (x ∷ xs) (suc i) e = drop_none xs i e

pub within : {X : Type 0} (xs : List X) (i : ℕ) (x : X) → slice_get xs i ≡ Some x → i < length xs
within [] i x e = absurd cc
within (y ∷ xs) zero x e = omega arith
within (y ∷ xs) (suc i) x e = omega (arith, within xs i x e)

-- one part more
pub concat_more : (xs : List (List ℕ)) (i : ℕ) (x whole before : List ℕ) → slice_get xs i ≡ Some x → before ++ concat (drop i xs) ≡ whole
    → (after : List ℕ) → after ≡ before ++ x → after ++ concat (drop (i + 1) xs) ≡ whole
concat_more xs i x whole before here was after is =
    ap (λ ys. ys ++ concat (drop (i + 1) xs)) is ∙ append_assoc before x (concat (drop (i + 1) xs))
    ∙ ap (λ (ys : List (List ℕ)). before ++ concat ys) (sym (drop_here xs i x here)) ∙ was

pub concat_end : (xs : List (List ℕ)) (i : ℕ) (whole before : List ℕ) → slice_get xs i ≡ None → before ++ concat (drop i xs) ≡ whole → before ≡ whole
concat_end xs i whole before none was =
    sym (append-nil before) ∙ ap (λ (ys : List (List ℕ)). before ++ concat ys) (sym (drop_none xs i none)) ∙ was
