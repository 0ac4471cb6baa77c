-- Rising numbers are told by which numbers they are.
use Rattle.std.proofs.Common.{◌≡◌, ℕ, suc, ◌==◌, List, [], ◌∷◌, Bool, true, sym, ap, ◌∙◌, inl, inr, arith}
use Rattle.std.specs.Prelude.{filter, Contains, ◌&&◌}
use Rattle.std.proofs.lemmas.Bool.{and_parts, cases_Bool, eqb-true}
use Rattle.std.proofs.lemmas.Map.Views.{any-filter_same}
use Rattle.rpm_check.proofs.Vocabulary.{is_in, or_cases, Rises}

pub in_filter : (p : ℕ → Bool) (n : ℕ) (xs : List ℕ) → is_in n (filter p xs) ≡ (p n && is_in n xs)
in_filter p n xs = any-filter_same (λ m. m == n) p (p n) (λ k is. ap p (eqb-true k n is)) xs

pub rises_filter : (p : ℕ → Bool) (xs : List ℕ) → Rises xs → Rises (filter p xs)
rises_filter p [] rising = tt
rises_filter p (x ∷ xs) rising = elim (cases_Bool (p x)) [
  | inl takes ↦
      rw takes ((λ n is. rising.0 n (and_parts (p n) (is_in n xs) (sym (in_filter p n xs) ∙ is)).1), rises_filter p xs rising.1)
  | inr other ↦ rw other (rises_filter p xs rising.1)
]

-- ---- where they stand

pub contained : (q : ℕ) (xs : List ℕ) → is_in q xs ≡ true → Contains xs q
contained q [] is = absurd cc
contained q (x ∷ xs) is = elim (or_cases (x == q) (is_in q xs) is) [
  | inl here ↦ (0, omega arith, eqb-true x q here)
  | inr later ↦ (let there = contained q xs later in (suc there.0, omega (arith, there.1), there.2))
]
