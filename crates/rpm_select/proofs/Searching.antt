-- The next of rising numbers, and numbers that are put in order.
use Rattle.std.proofs.Common.{◌≡◌, ℕ, zero, suc, ◌+◌, ◌<◌, ◌≤◌, ◌||◌, ◌==◌, List, [], ◌∷◌, length, get_or, Bool, true, false, Some, None, refl, sym, ap, ◌∙◌, inl, inr, arith, eqb}
use Rattle.rpm_select.proofs.Vocabulary.{among, dedup, dedup_from, is_in, IsNext, IsStrictlyIncreasing, not_among}
use Rattle.std.proofs.lemmas.Bool.{cases_Bool, cases_lt, eqb-true}

-- numbers that rise don't fall further on
pub no_fall : (xs : List ℕ) → IsStrictlyIncreasing xs → (i j : ℕ) → i ≤ j → j < length xs → get_or xs i 0 ≤ get_or xs j 0
no_fall xs rising i zero le within = (let is : i ≡ 0 = omega (arith, le) in rw is (omega arith))
no_fall xs rising i (suc j) le within = elim (cases_lt i (suc j)) [
  | inl before ↦
      (let rest = no_fall xs rising i j (omega (arith, before)) (omega (arith, within)) in
      let next : suc j ≡ j + 1 = omega arith in
      let step : get_or xs j 0 < get_or xs (j + 1) 0 = rising j (omega (arith, within)) in
      rw next (omega (arith, rest, step)))
  | inr not ↦ (let is : i ≡ suc j = omega (arith, le, not) in rw is (omega arith))
]

-- a place up to which the numbers are at most n, and from which on they are above it
module _ (xs : List ℕ) (rising : IsStrictlyIncreasing xs) (n i : ℕ) (below : (k : ℕ) → k < i → k < length xs → get_or xs k 0 ≤ n)
    (over : (k : ℕ) → i ≤ k → k < length xs → n < get_or xs k 0) where
  pub next_there : i < length xs → IsNext (λ m. is_in m xs) n (Some (get_or xs i 0))
  next_there within = (
    over i (omega arith) within,
    among xs i within,
    λ q a b. not_among q xs (λ k inside is. elim (cases_lt k i) [
      | inl before ↦ (let low = below k before inside in omega (arith, low, is, a))
      | inr from ↦ (let high = no_fall xs rising i k (omega (arith, from)) inside in omega (arith, high, is, b))
    ]),
  )

  pub next_none : length xs ≤ i → IsNext (λ m. is_in m xs) n None
  next_none end q a = not_among q xs (λ k inside is. (let low = below k (omega (arith, inside, end)) inside in omega (arith, low, is, a)))

-- ---- each once

again : (a b : Bool) → (a || (a || b)) ≡ (a || b)
again true b = refl
again false b = refl

dedup_from_in : (n k : ℕ) (xs : List ℕ) → is_in n (dedup_from eqb k xs) ≡ ((k == n) || is_in n xs)
dedup_from_in n k [] = refl
dedup_from_in n k (x ∷ xs) = elim (cases_Bool (eqb x k)) [
  | inl same ↦
      (let is : x ≡ k = eqb-true x k same in
      let test : (x == n) ≡ (k == n) = ap (λ (i : ℕ). i == n) is in
      rw same (dedup_from_in n k xs ∙ sym (again (k == n) (is_in n xs)) ∙ ap (λ (b : Bool). (k == n) || (b || is_in n xs)) (sym test)))
  | inr other ↦ rw other (ap (λ (b : Bool). (k == n) || b) (dedup_from_in n x xs))
]

pub dedup_in : (n : ℕ) (xs : List ℕ) → is_in n (dedup eqb xs) ≡ is_in n xs
dedup_in n [] = refl
dedup_in n (x ∷ xs) = dedup_from_in n x xs
