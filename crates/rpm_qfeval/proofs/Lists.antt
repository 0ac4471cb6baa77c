-- Short lists.
use Rattle.std.proofs.Common.{◌≡◌, ℕ, zero, suc, ◌+◌, List, [], ◌∷◌, ◌++◌, length, get_or, replicate, refl, ap, ◌∙◌, arith}

pub three : (xs : List ℕ) → length xs ≡ 3 → (get_or xs 0 0 ∷ get_or xs 1 0 ∷ get_or xs 2 0 ∷ []) ≡ xs
three [] h = absurd (omega arith)
three (a ∷ []) h = absurd (omega arith)
three (a ∷ b ∷ []) h = absurd (omega arith)
three (a ∷ b ∷ c ∷ []) h = refl
three (a ∷ b ∷ c ∷ d ∷ rest) h = absurd (omega arith)

pub replicate_more : (m n x : ℕ) → replicate {A = ℕ} (m + n) x ≡ replicate {A = ℕ} m x ++ replicate {A = ℕ} n x
replicate_more zero n x = let e : zero + n ≡ n = omega arith in ap (λ k. replicate {A = ℕ} k x) e
replicate_more (suc m) n x = let e : suc m + n ≡ suc (m + n) = omega arith in ap (λ k. replicate {A = ℕ} k x) e ∙ ap (λ (xs : List ℕ). x ∷ xs)
    (replicate_more m n x)
