-- A change of rows without those that are both dropped and added.
use Rattle.std.proofs.Common.{◌≡◌, ℕ, ◌+◌, ◌≤◌, ◌<◌, ◌==◌, List, [], ◌∷◌, take, drop, length, cond, Option, Some, None, sym, ap, ◌∙◌, inl, inr, arith}
use Rattle.std.specs.FinMap as finite
use Rattle.rpm_db.proofs.Vocabulary.{nat_cmp, no_row, of_at, old_rows, Package, Row, row_nth, rows, rows_at, same_row, times}
use Rattle.rpm_db.proofs.Vocabulary.{times-rows, times_none, times_one}
use Rattle.std.proofs.lemmas.Bool.{cases_Bool}
use Rattle.std.proofs.lemmas.Bool.Decides.{nat_tests}
use Rattle.std.proofs.lemmas.List.Sums.{sum_by_more, sum_by-drop_more, sum_by-take-drop}

-- the next row of a list
pub times_next : (row : Row) (xs : List Row) (i : ℕ) → i < length xs
    → times row (take (i + 1) xs) ≡ times row (take i xs) + times row (row_nth xs i ∷ [])
unfolding times
times_next row xs i within =
    let step : times row (take (i + 1) xs) ≡ times row (take i xs) + cond (same_row row (row_nth xs i)) 1 0 =
    sum_by_more (λ (x : Row). cond (same_row row x) 1 0) xs i no_row within in
    step ∙ ap (λ (n : ℕ). times row (take i xs) + n) (sym (times_one row (row_nth xs i)))

pub times_from : (row : Row) (xs : List Row) (i : ℕ) → i < length xs
    → times row (drop i xs) ≡ times row (row_nth xs i ∷ []) + times row (drop (i + 1) xs)
unfolding times
times_from row xs i within =
    let step : times row (drop i xs) ≡ cond (same_row row (row_nth xs i)) 1 0 + times row (drop (i + 1) xs) =
    sum_by-drop_more (λ (x : Row). cond (same_row row x) 1 0) xs i no_row within in
    step ∙ ap (λ (n : ℕ). n + times row (drop (i + 1) xs)) (sym (times_one row (row_nth xs i)))

pub times_rest : (row : Row) (xs : List Row) (i : ℕ) → times row (take i xs) + times row (drop i xs) ≡ times row xs
unfolding times
times_rest row xs i = sum_by-take-drop (λ (x : Row). cond (same_row row x) 1 0) xs i

-- the packages' rows hold those of a number
pub rows_held : (n : Option ℕ) (packages : finite.FinMap nat_cmp Package) (row : Row) → times row (old_rows n packages) ≤ times row (rows packages)
rows_held None packages row = omega (arith, times_none row)
rows_held (Some n) packages row = elim (cases_Bool (row.number == n)) [
  | inl same ↦
      (let is : row.number ≡ n = grind (arith, nat_tests) in
      let here = times-rows row packages ∙ ap (λ (q : ℕ). times row (rows_at q (finite.get packages q))) is in
      omega (arith, here))
  | inr other ↦ (let apart : row.number ≡ n → ⊥ = λ is. grind (arith, nat_tests) in omega (arith, of_at n (finite.get packages n) row apart))
]
