-- Whether a selection picks a package.
use Rattle.std.proofs.Common.{◌≡◌, ℕ, List, [], ◌∷◌, Bool, cond, ◌||◌, Option, Some, None, is_some, Ok, refl, sym, ap, inl, inr}
use Rattle.rpm_check.proofs.Vocabulary.{filter, is_some_of, list_any, NextNumberIs, Package}
use Rattle.std.proofs.lemmas.Bool.{cases_Bool}

-- the first above a number is there where there is one
pub is_some_next : (left : List (ℕ × Package)) (o : Option ℕ) → NextNumberIs left (Ok o) → is_some o ≡ is_some_of left
is_some_next left None none = ap is_some_of (sym none)
is_some_next left (Some n) some = ap is_some_of (sym some.2)

-- ---- a filter of a list

pub is_some_of-filter : {X : Type 0} (p : X → Bool) (xs : List X) → is_some_of (filter p xs) ≡ list_any p xs
is_some_of-filter p [] = refl
is_some_of-filter p (x ∷ xs) = elim (cases_Bool (p x)) [
  | inl takes ↦ simp takes
  | inr other ↦ simp other (is_some_of-filter p xs)
]

pub list_any_same : {X : Type 0} (p q : X → Bool) → ((x : X) → p x ≡ q x) → (xs : List X) → list_any p xs ≡ list_any q xs
list_any_same p q same [] = refl
list_any_same p q same (x ∷ xs) = λ i. same x i || list_any_same p q same xs i

pub filter_same : {X : Type 0} (p q : X → Bool) → ((x : X) → p x ≡ q x) → (xs : List X) → filter p xs ≡ filter q xs
filter_same p q same [] = refl
filter_same p q same (x ∷ xs) = λ i. cond (same x i) (x ∷ filter_same p q same xs i) (filter_same p q same xs i)
