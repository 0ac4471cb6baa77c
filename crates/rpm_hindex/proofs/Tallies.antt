-- Sums over the records of all buckets.
use Rattle.std.proofs.Common.{◌≡◌, ℕ, zero, suc, ◌+◌, ◌<◌, ◌≤◌, List, [], ◌∷◌, map, length, cond, refl, sym, ap, ◌∙◌, arith, inl, inr, zero-add}
use Rattle.rpm_hindex.proofs.Vocabulary.{all_places, Contains, flat_map, Index, range_with_len, Row, row_at, rows_of, same_row, sum_by, times}
use Rattle.std.proofs.lemmas.List.Sums.{sum_by-append, sum_by-cons}
use Rattle.std.proofs.lemmas.Bool.{cases_eq}

-- what a record adds to the count of a row
abbrev pub tally : (ℕ → List ℕ) → Row → ℕ → ℕ
tally unit row at = cond (same_row row (row_at unit at)) 1 0

pub times_map : (unit : ℕ → List ℕ) (row : Row) (places : List ℕ) → times row (map (row_at unit) places) ≡ sum_by (tally unit row) places
unfolding times
times_map unit row [] = refl
times_map unit row (p ∷ ps) =
    sum_by-cons (λ (r : Row). cond (same_row row r) 1 0) (row_at unit p) (map (row_at unit) ps)
    ∙ ap (λ (n : ℕ). tally unit row p + n) (times_map unit row ps)
    ∙ sym (sum_by-cons (tally unit row) p ps)

pub times_rows : (x : Index) (row : Row) → times row (rows_of x) ≡ sum_by (tally x.unit row) (all_places x)
unfolding rows_of
times_rows x row = times_map x.unit row (all_places x)

-- a sum that goes bucket by bucket
pub sum_flat : (f : ℕ → ℕ) (g : ℕ → List ℕ) (a n : ℕ) → sum_by f (flat_map g (range_with_len a n)) ≡ sum_by (λ (b : ℕ). sum_by f (g b)) (range_with_len a n)
sum_flat f g a zero = refl
sum_flat f g a (suc n) =
    sum_by-append f (g a) (flat_map g (range_with_len (a + 1) n))
    ∙ ap (λ (m : ℕ). sum_by f (g a) + m) (sum_flat f g (a + 1) n)
    ∙ sym (sum_by-cons (λ (b : ℕ). sum_by f (g b)) a (range_with_len (a + 1) n))

-- functions that agree on a range have the same sum over it
pub sum_same : (f g : ℕ → ℕ) (a n : ℕ) → ((b : ℕ) → a ≤ b → b < a + n → f b ≡ g b) → sum_by f (range_with_len a n) ≡ sum_by g (range_with_len a n)
sum_same f g a zero same = refl
sum_same f g a (suc n) same =
    sum_by-cons f a (range_with_len (a + 1) n)
    ∙ ap (λ (m : ℕ). m + sum_by f (range_with_len (a + 1) n)) (same a (omega arith) (omega arith))
    ∙ ap (λ (m : ℕ). g a + m) (sum_same f g (a + 1) n (λ b ge lt. same b (omega arith) (omega arith)))
    ∙ sym (sum_by-cons g a (range_with_len (a + 1) n))

-- and where one is more by v at one place, its sum is
pub sum_at : (f g : ℕ → ℕ) (c v a n : ℕ) → a ≤ c → c < a + n → f c ≡ g c + v → ((b : ℕ) → a ≤ b → b < a + n → (b ≡ c → ⊥) → f b ≡ g b)
    → sum_by f (range_with_len a n) ≡ sum_by g (range_with_len a n) + v
sum_at f g c v a zero ge lt here same = absurd (omega arith)
sum_at f g c v a (suc n) ge lt here same = elim (cases_eq a c) [
  | inl is ↦
      let rest : sum_by f (range_with_len (a + 1) n) ≡ sum_by g (range_with_len (a + 1) n) = sum_same f g (a + 1) n
      (λ b below above. same b (omega arith) (omega arith) (λ e. absurd (omega arith))) in
      let one : f a ≡ g a + v = ap f is ∙ here ∙ ap (λ (k : ℕ). g k + v) (sym is) in
      sum_by-cons f a (range_with_len (a + 1) n) ∙ omega (arith, sum_by-cons g a (range_with_len (a + 1) n))
  | inr other ↦
      let rest : sum_by f (range_with_len (a + 1) n) ≡ sum_by g (range_with_len (a + 1) n) + v = sum_at f g c v (a + 1) n (omega (arith, other))
      (omega arith) here (λ b below above. same b (omega arith) (omega arith)) in
      let one : f a ≡ g a = same a (omega arith) (omega arith) other in
      sum_by-cons f a (range_with_len (a + 1) n) ∙ omega (arith, sum_by-cons g a (range_with_len (a + 1) n))
]

pub sum_zeros : (a n : ℕ) → sum_by (λ (b : ℕ). 0) (range_with_len a n) ≡ 0
sum_zeros a zero = refl
sum_zeros a (suc n) = sum_by-cons (λ (b : ℕ). 0) a (range_with_len (a + 1) n) ∙ zero-add (sum_by (λ (b : ℕ). 0) (range_with_len (a + 1) n))
    ∙ sum_zeros (a + 1) n

-- a sum over a list by its elements
pub sum_each : (f g : ℕ → ℕ) (ps : List ℕ) → ((p : ℕ) → Contains ps p → f p ≡ g p) → sum_by f ps ≡ sum_by g ps
sum_each f g [] same = refl
sum_each f g (p ∷ ps) same =
    sum_by-cons f p ps
    ∙ ap (λ (m : ℕ). m + sum_by f ps) (same p (0, omega arith, refl))
    ∙ ap (λ (m : ℕ). g p + m) (sum_each f g ps (λ q (k, lt, is). same q (suc k, omega arith, is)))
    ∙ sym (sum_by-cons g p ps)

pub length_sum : (ps : List ℕ) → length ps ≡ sum_by (λ (p : ℕ). 1) ps
length_sum [] = refl
length_sum (p ∷ ps) = omega (arith, length_sum ps, sum_by-cons (λ (q : ℕ). 1) p ps)
