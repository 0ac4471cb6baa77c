-- Units after each other.
use Rattle.std.proofs.Common.{◌≡◌, ℕ, zero, suc, ◌+◌, ◌<◌, ◌≤◌, List, [], ◌∷◌, take, drop, length, refl, sym, ap, ◌∙◌, arith, drop-cons, add-one}
use Rattle.rpm_hindex.proofs.Vocabulary.{blank, units_from, unit_at, Units}

pub take_one : (file : Units) (at : ℕ) → at < length file → take 1 (drop at file) ≡ unit_at file at ∷ []
take_one file at below = ap (λ (us : Units). take 1 us) (drop-cons file at blank below)

pub run_is : (file : Units) (at n : ℕ) → at + n ≤ length file → take n (drop at file) ≡ units_from (unit_at file) at n
run_is file at zero le = refl
run_is file at (suc n) le =
    ap (λ (us : Units). take (suc n) us) (drop-cons file at blank (omega arith))
    ∙ ap (λ (us : Units). unit_at file at ∷ us) (ap (λ (k : ℕ). take n (drop k file)) (sym (add-one at)) ∙ run_is file (at + 1) n (omega arith))

pub run_same : (u v : ℕ → List ℕ) (at n : ℕ) → ((i : ℕ) → at ≤ i → i < at + n → u i ≡ v i) → units_from u at n ≡ units_from v at n
run_same u v at zero same = refl
run_same u v at (suc n) same =
    ap (λ (x : List ℕ). x ∷ units_from u (at + 1) n) (same at (omega arith) (omega arith))
    ∙ ap (λ (us : Units). v at ∷ us) (run_same u v (at + 1) n (λ i ge lt. same i (omega arith) (omega arith)))
