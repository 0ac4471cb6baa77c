-- A list that is gone through by place.
use Rattle.std.proofs.Common.{◌≡◌, ℕ, zero, suc, ◌+◌, ◌<◌, ◌≤◌, List, [], ◌∷◌, length, drop, get_or, Some, None, refl, sym, ap, arith}
use Rattle.std.specs.Prelude.{slice_get}

pub drop_here : {X : Type 0} (xs : List X) (i : ℕ) (x : X) → slice_get xs i ≡ Some x → drop i xs ≡ x ∷ drop (i + 1) xs
drop_here [] i x e = absurd cc
drop_here (y ∷ xs) zero x e = let is : y ≡ x = cc in ap (λ z. z ∷ xs) is
drop_here (y ∷ xs) (suc i) x e = let step : suc i + 1 ≡ suc (i + 1) = omega arith in rw step (drop_here xs i x e)

pub drop_none : {X : Type 0} (xs : List X) (i : ℕ) → slice_get xs i ≡ None → drop i xs ≡ []
drop_none [] zero e = refl
drop_none [] (suc i) e = refl
drop_none (x ∷ xs) zero e = absurd cc
drop_none (x ∷ xs) (suc i) e = drop_none xs i e

pub drop_all : {X : Type 0} (xs : List X) (i : ℕ) → length xs ≤ i → drop i xs ≡ []
drop_all [] zero h = refl
drop_all [] (suc i) h = refl
drop_all (x ∷ xs) zero h = absurd (omega arith)
drop_all (x ∷ xs) (suc i) h = drop_all xs i (omega arith)

pub within : {X : Type 0} (xs : List X) (i : ℕ) (x : X) → slice_get xs i ≡ Some x → i < length xs
within [] i x e = absurd cc
within (y ∷ xs) zero x e = omega arith
within (y ∷ xs) (suc i) x e = omega (arith, within xs i x e)

pub drop_at : {X : Type 0} (xs : List X) (i : ℕ) (default : X) → i < length xs → drop i xs ≡ get_or xs i default ∷ drop (i + 1) xs
drop_at [] i d h = absurd (omega arith)
drop_at (y ∷ xs) zero d h = refl
drop_at (y ∷ xs) (suc i) d h = let step : suc i + 1 ≡ suc (i + 1) = omega arith in rw step (drop_at xs i d (omega arith))

-- what a list has at a place where the rest of it begins with an element
pub record BeginsWith {X : Type 0} (xs : List X) (i : ℕ) (x : X) (rest : List X) : Type 0 where
  pub behind : rest ≡ drop (i + 1) xs
  pub here : slice_get xs i ≡ Some x
  pub below : i < length xs

pub begins_with : {X : Type 0} (xs : List X) (i : ℕ) (x : X) (rest : List X) → drop i xs ≡ x ∷ rest → BeginsWith xs i x rest
begins_with [] zero x rest e = absurd cc
begins_with [] (suc i) x rest e = absurd cc
begins_with (y ∷ xs) zero x rest e =
    let same : xs ≡ rest = cc in
    let first : y ≡ x = cc in
    record { behind = sym same; here = ap Some first; below = omega arith }
begins_with (y ∷ xs) (suc i) x rest e =
    let b = begins_with xs i x rest e in
    let step : suc i + 1 ≡ suc (i + 1) = omega arith in
    record { behind = rw step b.behind; here = b.here; below = omega (arith, b.below) }
