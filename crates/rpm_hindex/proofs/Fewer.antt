-- Rows that are among others need no more units, and so do those that a change keeps.
use Rattle.std.proofs.Common.{◌≡◌, ℕ, zero, suc, ◌+◌, ◌*◌, ◌≤◌, ◌<◌, ◌++◌, List, [], ◌∷◌, length, leb, Bool, reverse, arith, inl, inr}
use Rattle.rpm_hindex.proofs.Vocabulary.{all_places, bucket_count, doubled_buckets, Index, InPlace, IsScratchOf, kept_of, live_of, once, reach_with, record_units}
use Rattle.rpm_hindex.proofs.Vocabulary.{Row, rows_of, Scratch, sum_by, times, times-append, times-cons, units_after, units_for, without, Work}
use Rattle.std.proofs.lemmas.Bool.{cases_lt, cond-true, cond-false, le-leb, lt-leb}
use Rattle.std.proofs.lemmas.List.Sums.{sum_by-cons}
use Rattle.rpm_hindex.proofs.Honest.{kept_most}
use Rattle.rpm_hindex.proofs.Keeping.{times_kept, times-reverse}
use Rattle.rpm_hindex.proofs.Tallies.{tally, times_rows}

module _ (f : Row → ℕ) where
  pub sum_less : (few many : List Row) → ((r : Row) → times r few ≤ times r many) → sum_by f few ≤ sum_by f many
  sum_less [] many less = omega arith
  sum_less (r ∷ rows) many less =
      let t = without f r many (omega (arith, less r, times-cons r r rows, once r)) in
      let rest = sum_less rows t.0 (λ q. omega (arith, less q, times-cons q r rows, t.1 q)) in
      omega (arith, t.2, rest, sum_by-cons f r rows)

pub live_less : (few many : List Row) → ((r : Row) → times r few ≤ times r many) → live_of few ≤ live_of many
unfolding live_of
live_less few many less = sum_less (λ (r : Row). record_units (length r.key)) few many less

at_least : (n b r : ℕ) → b ≤ doubled_buckets n b r
at_least zero b r = omega arith
at_least (suc n) b r = elim (cases_lt (2 * b) r) [
  | inl more ↦ omega (arith, cond-false (leb r (2 * b)) b (doubled_buckets n (2 * b) r) (lt-leb r (2 * b) more), at_least n (2 * b) r)
  | inr done ↦ omega (arith, cond-true (leb r (2 * b)) b (doubled_buckets n (2 * b) r) (le-leb r (2 * b) done))
]

doubled_less : (n m b q r : ℕ) → 0 < b → q ≤ r → r ≤ 2 * b + m → doubled_buckets n b q ≤ doubled_buckets m b r
doubled_less zero m b q r some le enough = at_least m b r
doubled_less (suc n) zero b q r some le enough =
    omega (arith, cond-true (leb q (2 * b)) b (doubled_buckets n (2 * b) q) (le-leb q (2 * b) (omega (arith, le, enough))))
doubled_less (suc n) (suc m) b q r some le enough = elim (cases_lt (2 * b) q) [
  | inr done ↦ omega (arith, cond-true (leb q (2 * b)) b (doubled_buckets n (2 * b) q) (le-leb q (2 * b) done), at_least (suc m) b r)
  | inl more ↦
      omega (
        arith,
        cond-false (leb q (2 * b)) b (doubled_buckets n (2 * b) q) (lt-leb q (2 * b) more),
        cond-false (leb r (2 * b)) b (doubled_buckets m (2 * b) r) (lt-leb r (2 * b) (omega (arith, more, le))),
        doubled_less n m (2 * b) q r (omega (arith, some)) le (omega (arith, enough, some)),
      )
]

count_less : (q r : ℕ) → q ≤ r → bucket_count q ≤ bucket_count r
unfolding bucket_count
count_less q r le = doubled_less q r 64 q r (omega arith) le (omega arith)

ones : (rows : List Row) → sum_by (λ (r : Row). 1) rows ≡ length rows
ones [] = omega arith
ones (r ∷ rows) = omega (arith, sum_by-cons (λ (q : Row). 1) r rows, ones rows)

pub length_less : (few many : List Row) → ((r : Row) → times r few ≤ times r many) → length few ≤ length many
length_less few many less = omega (arith, ones few, ones many, sum_less (λ (r : Row). 1) few many less)

pub units_less : (few many : List Row) → ((r : Row) → times r few ≤ times r many) → units_for few ≤ units_for many
units_less few many less =
    omega (arith, count_less (length few) (length many) (length_less few many less), live_less few many less)

-- ---- what a change keeps

kept_among : (x : Index) (kept : ℕ → Bool) (r : Row) → times r (reverse (kept_of x kept)) ≤ times r (rows_of x)
kept_among x kept r =
    omega (arith, times-reverse r (kept_of x kept), times_kept x kept r, times_rows x r, kept_most kept (tally x.unit r) (all_places x))

-- so what is made from scratch of it and of added rows
pub scratch_grows : (x : Index) (kept : ℕ → Bool) (adds : List Row) (units : ℕ) (work : Work) → IsScratchOf (reverse (kept_of x kept) ++ adds) work
    → units_after work ≤ reach_with adds (rows_of x) units
scratch_grows x kept adds units (InPlace p) made = absurd made
scratch_grows x kept adds units (Scratch image) made =
    let less = units_less (reverse (kept_of x kept) ++ adds) (rows_of x ++ adds)
    (λ r. omega (arith, kept_among x kept r, times-append r (reverse (kept_of x kept)) adds, times-append r (rows_of x) adds)) in
    omega (arith, less, made.1.long)
