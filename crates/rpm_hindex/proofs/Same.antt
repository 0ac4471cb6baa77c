-- Lists that have the same rows, each as often.
use Rattle.std.proofs.Common.{◌≡◌, ℕ, List, [], ◌∷◌, length, refl, sym, ap, ◌∙◌, arith}
use Rattle.rpm_hindex.proofs.Vocabulary.{index_units, live_of, once, record_units, Row, SameRows, sum_by, times-cons}
use Rattle.rpm_hindex.proofs.Vocabulary.{times_none, units_for, without}
use Rattle.std.proofs.lemmas.List.Sums.{sum_by-cons}

module _ (f : Row → ℕ) where
  pub sum_same_rows : (old new : List Row) → SameRows old new → sum_by f new ≡ sum_by f old
  sum_same_rows [] [] same = refl
  sum_same_rows [] (x ∷ xs) same = absurd (omega (arith, same x, times_none x, times-cons x x xs, once x))
  sum_same_rows (r ∷ rows) new same =
      let t = without f r new (omega (arith, same r, times-cons r r rows, once r)) in
      let rest = sum_same_rows rows t.0 (λ q. omega (arith, same q, times-cons q r rows, t.1 q)) in
      omega (arith, t.2, rest, sum_by-cons f r rows)

ones : (rows : List Row) → sum_by (λ (r : Row). 1) rows ≡ length rows
ones [] = refl
ones (r ∷ rows) = omega (arith, sum_by-cons (λ (q : Row). 1) r rows, ones rows)

pub length_same_rows : (old new : List Row) → SameRows old new → length new ≡ length old
length_same_rows old new same = sym (ones new) ∙ sum_same_rows (λ r. 1) old new same ∙ ones old

pub live_same_rows : (old new : List Row) → SameRows old new → live_of new ≡ live_of old
unfolding live_of
live_same_rows old new same = sum_same_rows (λ (r : Row). record_units (length r.key)) old new same

pub units_same_rows : (old new : List Row) → SameRows old new → units_for new ≡ units_for old
units_same_rows old new same =
    ap (λ (n : ℕ). index_units n (live_of new)) (length_same_rows old new same) ∙ ap (λ (n : ℕ). index_units (length old) n) (live_same_rows old new same)
