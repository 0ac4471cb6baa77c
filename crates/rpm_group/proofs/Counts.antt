-- How many places below an end pass a test.
use Rattle.std.proofs.Common.{◌≡◌, inl, inr, ℕ, zero, suc, ◌+◌, ◌<◌, ◌≤◌, sym, ap, ◌∙◌, arith, true, false}
use Rattle.std.specs.Prelude.{Bool, if◌then◌else◌}
use Rattle.std.proofs.lemmas.Bool.{cases_lt, cases_Bool}
use Rattle.rpm_group.proofs.Vocabulary.{count_below}

pub step : (test : ℕ → Bool) (n : ℕ) → test n ≡ false → count_below test (suc n) ≡ count_below test n
unfolding count_below
step test n none = ap (λ (b : Bool). count_below test n + (if b then 1 else 0)) none ∙ omega arith

pub step_one : (test : ℕ → Bool) (n : ℕ) → test n ≡ true → count_below test (suc n) ≡ count_below test n + 1
unfolding count_below
step_one test n one = ap (λ (b : Bool). count_below test n + (if b then 1 else 0)) one

pub count_none : (test : ℕ → Bool) (from n : ℕ) → ((i : ℕ) → from ≤ i → i < from + n → test i ≡ false) → count_below test (from + n) ≡ count_below test from
count_none test from zero none = ap (λ (k : ℕ). count_below test k) (omega arith)
count_none test from (suc n) none = ap (λ (k : ℕ). count_below test k) (next from n)
    ∙ step test (from + n) (none (from + n) (omega arith) (omega arith)) ∙ count_none test from n (λ i low high. none i low (omega arith))
  where
    next : (a b : ℕ) → a + suc b ≡ suc (a + b)
    next a b = omega arith

pub count_all : (test : ℕ → Bool) (from n : ℕ) → ((i : ℕ) → from ≤ i → i < from + n → test i ≡ true) → count_below test (from + n) ≡ count_below test from + n
count_all test from zero all = ap (λ (k : ℕ). count_below test k) (same from) ∙ more (count_below test from)
  where
    same : (a : ℕ) → a + 0 ≡ a
    same a = omega arith

    more : (a : ℕ) → a ≡ a + 0
    more a = omega arith
count_all test from (suc n) all =
    ap (λ (k : ℕ). count_below test k) (next from n)
    ∙ step_one test (from + n) (all (from + n) (omega arith) (omega arith))
    ∙ ap (λ (k : ℕ). k + 1) (count_all test from n (λ i low high. all i low (omega arith)))
    ∙ last (count_below test from) n
  where
    next : (a b : ℕ) → a + suc b ≡ suc (a + b)
    next a b = omega arith

    last : (a b : ℕ) → a + b + 1 ≡ a + suc b
    last a b = omega arith

pub count_later : (test : ℕ → Bool) (from n : ℕ) → count_below test from ≤ count_below test (from + n)
count_later test from zero = omega (arith, ap (λ (k : ℕ). count_below test k) (same from))
  where
    same : (a : ℕ) → a ≡ a + 0
    same a = omega arith
count_later test from (suc n) = elim (cases_Bool (test (from + n))) [
  | inl one ↦ omega (arith, count_later test from n, step_one test (from + n) one, ap (λ (k : ℕ). count_below test k) (next from n))
  | inr none ↦ omega (arith, count_later test from n, step test (from + n) none, ap (λ (k : ℕ). count_below test k) (next from n))
]
  where
    next : (a b : ℕ) → a + suc b ≡ suc (a + b)
    next a b = omega arith

-- where none is counted, none passes
step_parts : (test : ℕ → Bool) (n : ℕ) → count_below test (suc n) ≡ 0 → (count_below test n ≡ 0) × (test n ≡ false)
step_parts test n none = elim (cases_Bool (test n)) [
  | inl one ↦ absurd (omega (arith, none, step_one test n one))
  | inr no_one ↦ (sym (step test n no_one) ∙ none, no_one)
]

pub none_pass : (test : ℕ → Bool) (n : ℕ) → count_below test n ≡ 0 → (i : ℕ) → i < n → test i ≡ false
none_pass test zero none i below = absurd (omega (arith, below))
none_pass test (suc n) none i below = elim (cases_lt i n) [
  | inl before ↦ none_pass test n (step_parts test n none).0 i before
  | inr last ↦
      let same : n ≡ i = omega arith in
      ap test (sym same) ∙ (step_parts test n none).1
]
