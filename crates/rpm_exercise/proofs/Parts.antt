-- The changes of the exercise, one round after the other.
use Rattle.std.proofs.Common.{◌≡◌, ℕ, ◌+◌, ◌-◌, ◌<◌, ◌≤◌, suc, List, [], ◌∷◌, ◌++◌, ap, ◌∙◌, arith}
use Rattle.rpm_exercise.proofs.Vocabulary.{changes, changes_after, flat_map, next, range_with_len, State}

-- ---- numbers that are gone through

range_next : (a n k : ℕ) → k < n → range_with_len a (n - k) ≡ a ∷ range_with_len (a + 1) (n - (k + 1))
range_next a n k below = let one : n - k ≡ suc (n - (k + 1)) = omega arith in ap (range_with_len a) one

pub each_next : {X : Type 0} (f : ℕ → List X) (a n k : ℕ) → k < n
    → flat_map f (range_with_len a (n - k)) ≡ f a ++ flat_map f (range_with_len (a + 1) (n - (k + 1)))
each_next f a n k below = ap (flat_map f) (range_next a n k below)

pub each_none : {X : Type 0} (f : ℕ → List X) (a n k : ℕ) → n ≤ k → flat_map f (range_with_len a (n - k)) ≡ []
each_none f a n k past = let none : n - k ≡ 0 = omega arith in ap (λ (m : ℕ). flat_map f (range_with_len a m)) none

pub each_all : {X : Type 0} (f : ℕ → List X) (n : ℕ) → flat_map f (range_with_len 1 n) ≡ flat_map f (range_with_len 1 (n - 0))
each_all f n = let whole : n ≡ n - 0 = omega arith in ap (λ (m : ℕ). flat_map f (range_with_len 1 m)) whole

-- ---- the three rounds

pub all_is : (n : ℕ) {b k : ℕ} (s : State) → b ≡ k - 1 → k ≡ next s → changes_after b n ≡ changes n s
unfolding changes
all_is n s before is = ap (λ (m : ℕ). changes_after m n) (before ∙ ap (λ (m : ℕ). m - 1) is)
