-- Texts that are passed over.
use Rattle.std.proofs.Common.{◌≡◌, ℕ, zero, suc, ◌+◌, ◌-◌, ◌<◌, List, [], ◌∷◌, take, drop, true, false, Some, refl, sym, ap, ◌∙◌, arith, inl, inr}
use Rattle.std.specs.Prelude.{slice_get, is_some}
use Rattle.rpm_header.proofs.Vocabulary.{after_first, are_ended, before_first, is_zero, position, position_or_len, after_texts, Splits, texts, zeros}
use Rattle.std.proofs.lemmas.Bool.{cases_Bool}
use Rattle.rpm_header.proofs.Bools.{and_true}
use Rattle.rpm_header.proofs.Counted.{zeros-cons, zeros-nil}

-- the text after so many others
pub text_behind : (n i : ℕ) (bytes : List ℕ) → i < n → slice_get (texts n bytes) i ≡ Some (before_first is_zero (after_texts i bytes))
unfolding texts after_texts
text_behind zero i bytes lt = absurd (omega arith)
text_behind (suc n) zero bytes lt = refl
text_behind (suc n) (suc i) bytes lt = text_behind n i (after_first is_zero bytes) (omega arith)

after_zero : (b : ℕ) (bs : List ℕ) → is_zero b ≡ true → after_first is_zero (b ∷ bs) ≡ bs
after_zero b bs here = rw here refl

after_other : (b : ℕ) (bs : List ℕ) → is_zero b ≡ false → after_first is_zero (b ∷ bs) ≡ after_first is_zero bs
after_other b bs there =
    let step : 1 + position_or_len is_zero bs + 1 ≡ suc (position_or_len is_zero bs + 1) = omega arith in
    rw (there, step) refl

skip_one : (i : ℕ) (bytes : List ℕ) → 0 < i → after_texts i bytes ≡ after_texts (i - 1) (after_first is_zero bytes)
unfolding after_texts
skip_one zero bytes some = absurd (omega arith)
skip_one (suc i) bytes some =
    let before : suc i - 1 ≡ i = omega arith in
    rw before refl

-- bytes in which fewer texts end may be passed over first
pub skip_drop : (k i : ℕ) (bytes : List ℕ) → zeros (take k bytes) < i → after_texts (i - zeros (take k bytes)) (drop k bytes) ≡ after_texts i bytes
skip_drop zero i bytes lt = ap (λ (n : ℕ). after_texts n bytes) (omega (arith, zeros-nil))
skip_drop (suc k) i [] lt = ap (λ (n : ℕ). after_texts n []) (omega (arith, zeros-nil))
skip_drop (suc k) i (b ∷ bs) lt =
    elim (cases_Bool (is_zero b)) [
      | inl here ↦ (
          let seen : zeros (b ∷ take k bs) ≡ 1 + zeros (take k bs) = rw (zeros-cons b (take k bs), here) refl in
          let left : i - zeros (b ∷ take k bs) ≡ i - 1 - zeros (take k bs) = omega (arith, seen) in
          ap (λ (n : ℕ). after_texts n (drop k bs)) left
          ∙ skip_drop k (i - 1) bs (omega (arith, seen))
          ∙ ap (λ (s : List ℕ). after_texts (i - 1) s) (sym (after_zero b bs here))
          ∙ sym (skip_one i (b ∷ bs) (omega (arith, seen))))
      | inr there ↦ (
          let seen : zeros (b ∷ take k bs) ≡ zeros (take k bs) = rw (zeros-cons b (take k bs), there) (omega arith) in
          ap (λ (n : ℕ). after_texts (i - n) (drop k bs)) seen
          ∙ skip_drop k i bs (omega (arith, seen))
          ∙ skip_one i bs (omega arith)
          ∙ ap (λ (s : List ℕ). after_texts (i - 1) s) (sym (after_other b bs there))
          ∙ sym (skip_one i (b ∷ bs) (omega arith)))
    ]

-- a text more
pub skip_split : (left next : ℕ) (bytes first others : List ℕ) → left ≡ next + 1 → Splits bytes first others → after_texts left bytes ≡ after_texts next others
unfolding after_texts
skip_split left next bytes first others is s =
    let k : left ≡ suc next = omega arith in
    rw (k, s.others) refl

pub skip_none : (n : ℕ) (bytes : List ℕ) → n ≡ 0 → after_texts n bytes ≡ bytes
unfolding after_texts
skip_none n bytes none = rw none refl

skip_next : (i : ℕ) (bytes : List ℕ) → after_texts (suc i) bytes ≡ after_first is_zero (after_texts i bytes)
unfolding after_texts
skip_next zero bytes = refl
skip_next (suc i) bytes = skip_next i (after_first is_zero bytes)

pub skip_one_more : (i j : ℕ) (bytes : List ℕ) → j ≡ i + 1 → after_texts j bytes ≡ after_first is_zero (after_texts i bytes)
skip_one_more i j bytes is =
    let k : j ≡ suc i = omega arith in
    rw k (skip_next i bytes)

-- the text after fewer texts than there are has its zero byte
pub ended_behind : (n i : ℕ) (bytes : List ℕ) → i < n → are_ended n bytes ≡ true → is_some (position is_zero (after_texts i bytes)) ≡ true
unfolding after_texts are_ended
ended_behind zero i bytes lt e = absurd (omega arith)
ended_behind (suc n) zero bytes lt e = (and_true (is_some (position is_zero bytes)) (are_ended n (after_first is_zero bytes)) e).0
ended_behind (suc n) (suc i) bytes lt e =
    ended_behind n i (after_first is_zero bytes) (omega arith)
    (and_true (is_some (position is_zero bytes)) (are_ended n (after_first is_zero bytes)) e).1
