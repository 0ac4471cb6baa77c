-- Which numbers are among others, by their places.
use Rattle.std.proofs.Common.{◌≡◌, ◌≢◌, ℕ, zero, suc, ◌<◌, ◌==◌, List, [], ◌∷◌, length, get_or, true, false, refl}
use Rattle.std.proofs.Common.{arith}
use Rattle.std.proofs.lemmas.Bool.{eq-eqb}
use Rattle.std.proofs.lemmas.Bool.Decides.{nat_tests}
use Rattle.rpm_select.specs.Reach.{is_in}
use Rattle.rpm_select.proofs.laws.Keyed.{or_left, or_right}

pub among : (xs : List ℕ) (i : ℕ) → i < length xs → is_in (get_or xs i 0) xs ≡ true
among [] i within = absurd (omega (arith, within))
among (x ∷ xs) zero within = or_left (x == x) (is_in x xs) (eq-eqb x x refl)
among (x ∷ xs) (suc i) within =
    or_right (x == get_or xs i 0) (is_in (get_or xs i 0) xs) (among xs i (omega (arith, within)))

pub not_among : (q : ℕ) (xs : List ℕ) → ((k : ℕ) → k < length xs → get_or xs k 0 ≢ q) → is_in q xs ≡ false
not_among q [] other = refl
not_among q (x ∷ xs) other =
    let first = other 0 (omega arith) in
    let test : (x == q) ≡ false = grind (arith, nat_tests) in
    rw test (not_among q xs (λ k within. other (suc k) (omega (arith, within))))
