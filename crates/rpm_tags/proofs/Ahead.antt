-- The texts that are ahead.
use Rattle.std.proofs.Common.{◌≡◌, ℕ, zero, suc, ◌+◌, ◌<◌, List, [], ◌∷◌, length, drop, Some, refl, arith}
use Rattle.std.specs.Prelude.{slice_get}

pub drop_next : (xs : List (List ℕ)) (i j : ℕ) (t : List ℕ) (ys : List (List ℕ)) → j ≡ i + 1 → drop i xs ≡ t ∷ ys → ys ≡ drop j xs
drop_next [] zero j t ys next at = absurd cc
drop_next [] (suc i) j t ys next at = absurd cc
drop_next (x ∷ xs) zero j t ys next at =
    let rest : ys ≡ xs = cc in
    rw (next, rest) refl
drop_next (x ∷ xs) (suc i) j t ys next at =
    let step : j ≡ suc (i + 1) = omega arith in
    rw step (drop_next xs i (i + 1) t ys refl at)

pub at_drop : (xs : List (List ℕ)) (i : ℕ) (t : List ℕ) (ys : List (List ℕ)) → drop i xs ≡ t ∷ ys → slice_get xs i ≡ Some t
at_drop [] zero t ys at = absurd cc
at_drop [] (suc i) t ys at = absurd cc
at_drop (x ∷ xs) zero t ys at =
    let is : x ≡ t = cc in
    rw is refl
at_drop (x ∷ xs) (suc i) t ys at = at_drop xs i t ys at

pub not_past : (xs : List (List ℕ)) (i : ℕ) → drop i xs ≡ [] → i < length xs → ⊥
not_past [] i none within = omega arith
not_past (x ∷ xs) zero none within = cc
not_past (x ∷ xs) (suc i) none within = not_past xs i none (omega arith)
