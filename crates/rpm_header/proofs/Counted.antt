-- Texts have their ends where there are as many zero bytes.
use Rattle.std.proofs.Common.{◌≡◌, ℕ, zero, suc, ◌+◌, ◌-◌, ◌*◌, ◌<◌, ◌≤◌, List, [], ◌∷◌, ◌++◌, length, take, drop, true, refl, sym, ap, ◌∙◌, arith, inl, inr, leb, le-leb, get_or, eq-eqb}
use Rattle.std.specs.Prelude.{cond}
use Rattle.rpm_header.proofs.Vocabulary.{after_first, are_ended, is_zero, position_or_len, zeros}
use Rattle.std.proofs.lemmas.Bool.{cases_Bool, lt-leb, leb-true}
use Rattle.std.proofs.lemmas.Bool.Decides.{leb_tells}
use Rattle.std.proofs.lemmas.List.{take-append-drop, drop_all, length-take}
use Rattle.std.proofs.lemmas.List.Sums.{sum_by-cons, sum_by-append, count_by-le-length}

-- ---- sums

pub zeros-nil : zeros [] ≡ 0
unfolding zeros
zeros-nil = refl

pub zeros-cons : (b : ℕ) (bs : List ℕ) → zeros (b ∷ bs) ≡ cond (is_zero b) 1 0 + zeros bs
unfolding zeros
zeros-cons b bs = sum_by-cons (λ x. cond (is_zero x) 1 0) b bs

zeros-append : (xs ys : List ℕ) → zeros (xs ++ ys) ≡ zeros xs + zeros ys
unfolding zeros
zeros-append xs ys = sum_by-append (λ x. cond (is_zero x) 1 0) xs ys

pub zeros-le : (xs : List ℕ) → zeros xs ≤ length xs
unfolding zeros
zeros-le xs = count_by-le-length is_zero xs

pub zeros-parts : (k : ℕ) (xs : List ℕ) → zeros xs ≡ zeros (take k xs) + zeros (drop k xs)
zeros-parts k xs = ap zeros (sym (take-append-drop k xs)) ∙ zeros-append (take k xs) (drop k xs)

pub zeros-take-le : (k : ℕ) (xs : List ℕ) → zeros (take k xs) ≤ k
zeros-take-le k xs = omega (arith, zeros-le (take k xs), length-take k xs)

pub zeros-past : (k : ℕ) (xs : List ℕ) → length xs ≤ k → zeros (drop k xs) ≡ 0
zeros-past k xs past = ap zeros (drop_all k xs past) ∙ zeros-nil

-- from an earlier place on there are no fewer
pub zeros-earlier : (j k : ℕ) (xs : List ℕ) → j ≤ k → zeros (drop k xs) ≤ zeros (drop j xs)
zeros-earlier j k [] le = omega (arith, zeros-past k [] (omega arith))
zeros-earlier zero k (x ∷ xs) le = omega (arith, zeros-parts k (x ∷ xs))
zeros-earlier (suc j) zero (x ∷ xs) le = absurd (omega arith)
zeros-earlier (suc j) (suc k) (x ∷ xs) le = zeros-earlier j k xs (omega arith)

-- a zero byte stands after each place in front of it
pub zeros-behind : (i k : ℕ) (xs : List ℕ) → i < length xs → get_or xs i 0 ≡ 0 → k < i + 1 → 0 < zeros (drop k xs)
zeros-behind i k [] lt here le = absurd (omega arith)
zeros-behind zero zero (x ∷ xs) lt here le = rw (zeros-cons x xs, eq-eqb x 0 here) (omega arith)
zeros-behind (suc i) zero (x ∷ xs) lt here le =
    let more = zeros-behind i zero xs (omega arith) here (omega arith) in rw (zeros-cons x xs) (omega (arith, more))
zeros-behind zero (suc k) (x ∷ xs) lt here le = absurd (omega arith)
zeros-behind (suc i) (suc k) (x ∷ xs) lt here le = zeros-behind i k xs (omega arith) here (omega arith)

-- ---- the first zero byte

abbrev first_zero : List ℕ → ℕ
first_zero bytes = position_or_len is_zero bytes

zeros-after : (bytes : List ℕ) → first_zero bytes < length bytes → zeros bytes ≡ zeros (after_first is_zero bytes) + 1
zeros-after [] lt = absurd (omega arith)
zeros-after (b ∷ bs) lt =
    elim (cases_Bool (is_zero b)) [
      | inl here ↦ (rw (zeros-cons b bs, here) (omega arith))
      | inr there ↦ (
          let further = rw there at lt in
          let step : 1 + first_zero bs + 1 ≡ suc (first_zero bs + 1) = omega arith in
          rw (zeros-cons b bs, there, step) (omega (arith, zeros-after bs (omega arith))))
    ]

zeros-none : (bytes : List ℕ) → length bytes ≤ first_zero bytes → zeros bytes ≡ 0
zeros-none [] le = zeros-nil
zeros-none (b ∷ bs) le =
    elim (cases_Bool (is_zero b)) [
      | inl here ↦ (let none = rw here at le in absurd (omega arith))
      | inr there ↦ (let further = rw there at le in rw (zeros-cons b bs, there) (omega (arith, zeros-none bs (omega arith))))
    ]

-- ---- the law

same_test : (a b c d : ℕ) → (a ≤ b → c ≤ d) → (c ≤ d → a ≤ b) → leb a b ≡ leb c d
same_test a b c d to from =
    elim (leb_tells a b) [
      | inl first ↦ (first.0 ∙ sym (le-leb c d (to first.1)))
      | inr first ↦ (elim (leb_tells c d) [ inl second ↦ absurd (omega (arith, from second.1)) | inr second ↦ (first.0 ∙ sym second.0) ])
    ]

-- so many texts have their ends where there are as many zero bytes
pub ended_counted : (n : ℕ) (bytes : List ℕ) → are_ended n bytes ≡ leb n (zeros bytes)
unfolding are_ended
ended_counted zero bytes = sym (le-leb 0 (zeros bytes) (omega arith))
ended_counted (suc n) bytes =
    elim (leb_tells (suc (first_zero bytes)) (length bytes)) [
      | inl found ↦ (rw (found.0, ended_counted n (after_first is_zero bytes))
          (same_test _ _ _ _ (λ h. omega (arith, zeros-after bytes found.1)) (λ h. omega (arith, zeros-after bytes found.1))))
      | inr past ↦ (rw past.0 (sym (lt-leb (suc n) (zeros bytes) (omega (arith, zeros-none bytes (omega arith))))))
    ]

pub ended_enough : (n : ℕ) (bytes : List ℕ) → n ≤ zeros bytes → are_ended n bytes ≡ true
ended_enough n bytes le = ended_counted n bytes ∙ le-leb n (zeros bytes) le

pub zeros_enough : (n : ℕ) (bytes : List ℕ) → are_ended n bytes ≡ true → n ≤ zeros bytes
zeros_enough n bytes ended = leb-true n (zeros bytes) (sym (ended_counted n bytes) ∙ ended)

-- what stands in front of a place counts first
pub ended_drop : (k n : ℕ) (bytes : List ℕ) → are_ended (n - zeros (take k bytes)) (drop k bytes) ≡ are_ended n bytes
ended_drop k n bytes =
    let test : leb (n - zeros (take k bytes)) (zeros (drop k bytes)) ≡ leb n (zeros bytes) =
    same_test _ _ _ _ (λ h. omega (arith, zeros-parts k bytes)) (λ h. omega (arith, zeros-parts k bytes)) in
    ended_counted (n - zeros (take k bytes)) (drop k bytes) ∙ test ∙ sym (ended_counted n bytes)

-- and so does what stands after a part
pub ended_part : (n behind : ℕ) (whole part : List ℕ) → zeros whole ≡ zeros part + behind → are_ended (n - behind) part ≡ are_ended n whole
ended_part n behind whole part parts =
    let test : leb (n - behind) (zeros part) ≡ leb n (zeros whole) = same_test _ _ _ _ (λ h. omega arith) (λ h. omega arith) in
    ended_counted (n - behind) part ∙ test ∙ sym (ended_counted n whole)

pub ended_in_front : (k n : ℕ) (bytes : List ℕ) → n ≤ zeros (take k bytes) → are_ended n bytes ≡ true
ended_in_front k n bytes le = ended_enough n bytes (omega (arith, zeros-parts k bytes))

-- fewer strides reach a place than pass it
pub in_strides : (most stride q n : ℕ) → stride * q ≤ n → n < most * stride → q < most
in_strides most stride q n reached wide = grind arith

-- a stride more
pub one_more : (k stride : ℕ) → 0 < k → k * stride ≡ (k - 1) * stride + stride
one_more zero stride some = absurd (omega arith)
one_more (suc k) stride some =
    let before : suc k - 1 ≡ k = omega arith in
    rw before (omega arith)
