-- The first rows of a list.
use Rattle.std.proofs.Common.{◌≡◌, ℕ, suc, ◌+◌, ◌<◌, ◌≤◌, ◌++◌, ◌∷◌, [], List, length, take, drop, drop-cons, ap, ◌∙◌, refl, arith}
use Rattle.std.proofs.lemmas.List.{take_more}
use Rattle.std.proofs.lemmas.List.Sums.{sum_by-take-le}
use Rattle.rpm_hindex.proofs.Vocabulary.{live_of, no_row, record_units, Row, row_nth}
use Rattle.rpm_hindex.proofs.Drafting.{live_push}

pub live_take : (rows : List Row) (i : ℕ) → live_of (take i rows) ≤ live_of rows
unfolding live_of
live_take rows i = sum_by-take-le (λ (r : Row). record_units (length r.key)) rows i

pub live_none : live_of [] ≡ 0
unfolding live_of
live_none = refl

-- the rows so far with the next one
pub next_rows : (rows : List Row) (i : ℕ) → i < length rows → take (i + 1) rows ≡ take i rows ++ row_nth rows i ∷ []
next_rows rows i lt = take_more rows i no_row lt

-- the rows from this one on, which the next one stands after
pub rows_from : (rows : List Row) (i next : ℕ) → i < length rows → next ≡ i + 1 → drop i rows ≡ row_nth rows i ∷ drop next rows
rows_from rows i next lt is =
    let behind : suc i ≡ next = omega (arith, is) in
    drop-cons rows i no_row lt ∙ ap (λ (n : ℕ). row_nth rows i ∷ drop n rows) behind

pub live_next : (rows : List Row) (i : ℕ) → i < length rows → live_of (take (i + 1) rows) ≡ live_of (take i rows) + record_units (length (row_nth rows i).key)
live_next rows i lt = ap live_of (next_rows rows i lt) ∙ live_push (take i rows) (row_nth rows i)
