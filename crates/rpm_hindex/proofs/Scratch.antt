-- How many buckets an index from scratch has.
use Rattle.std.proofs.Common.{◌≡◌, ℕ, zero, suc, ◌+◌, ◌-◌, ◌*◌, ◌/◌, ◌^◌, ◌<◌, ◌≤◌, min, List, length, take, get_or, true, eqb, leb, refl, sym, ap, ◌∙◌, arith, inl, inr}
use Rattle.rpm_hindex.proofs.Vocabulary.{bucket_count, doubled_buckets, EndsInZero, first_record, is_bucket_count, is_ordered, IsDraftOf, live_of, range_with_len, Row}
use Rattle.rpm_hindex.proofs.Vocabulary.{unit_at, unit_at-cut_up, units_for, units_of, word}
use Rattle.std.proofs.lemmas.Bool.{cases_lt, cond-true, cond-false, le-leb, lt-leb, eq-eqb, and_from}
use Rattle.std.proofs.lemmas.List.FromFn.{get_or-range_with_len, length-range_with_len}
use Rattle.std.proofs.lemmas.List.Folds.{list_any_at}
use Rattle.std.proofs.Math.Nat.{pow-le-pow_right, pow-succ'}

enough : (n b r : ℕ) → 0 < b → r ≤ 2 * b + n → r ≤ 2 * doubled_buckets n b r
enough zero b r some le = omega arith
enough (suc n) b r some le = elim (cases_lt (2 * b) r) [
  | inl lt ↦
      let is : doubled_buckets (suc n) b r ≡ doubled_buckets n (2 * b) r = cond-false (leb r (2 * b)) b (doubled_buckets n (2 * b) r) (lt-leb r (2 * b) lt) in
      omega (arith, is, enough n (2 * b) r (omega arith) (omega arith))
  | inr ge ↦
      let is : doubled_buckets (suc n) b r ≡ b = cond-true (leb r (2 * b)) b (doubled_buckets n (2 * b) r) (le-leb r (2 * b) ge) in
      omega (arith, is)
]

pub count_enough : (r : ℕ) → r ≤ 2 * bucket_count r
unfolding bucket_count
count_enough r = enough r 64 r (omega arith) (omega arith)

below_21 : (k : ℕ) → 64 * 2 ^ k < 134217728 → k < 21
below_21 k lt = elim (cases_lt k 21) [
  | inl ok ↦ ok
  | inr past ↦ let big : 2 ^ 21 ≤ 2 ^ k = pow-le-pow_right {n = 2} (omega arith) past in absurd (omega arith)
]

doubles : (n k r : ℕ) → k < 22 → r ≤ 2 ^ 28 → (j : ℕ) × (j < 22) × (doubled_buckets n (64 * 2 ^ k) r ≡ 64 * 2 ^ j)
doubles zero k r lt le = (k, lt, refl)
doubles (suc n) k r lt le = elim (cases_lt (2 * (64 * 2 ^ k)) r) [
  | inl more ↦
      let next : 2 * (64 * 2 ^ k) ≡ 64 * 2 ^ (suc k) = omega (arith, pow-succ' 2 k) in
      let is : doubled_buckets (suc n) (64 * 2 ^ k) r ≡ doubled_buckets n (2 * (64 * 2 ^ k)) r = cond-false (leb r (2 * (64 * 2 ^ k))) (64 * 2 ^ k) _
      (lt-leb r (2 * (64 * 2 ^ k)) more) in
      let rest = doubles n (suc k) r (omega (arith, below_21 k (omega arith))) le in
      (rest.0, rest.1, is ∙ ap (λ (b : ℕ). doubled_buckets n b r) next ∙ rest.2)
  | inr done ↦ (k, lt, cond-true (leb r (2 * (64 * 2 ^ k))) (64 * 2 ^ k) _ (le-leb r (2 * (64 * 2 ^ k)) done))
]

pub count_is : (r : ℕ) → r ≤ 2 ^ 28 → is_bucket_count (bucket_count r) ≡ true
unfolding bucket_count is_bucket_count
count_is r le =
    let d = doubles r 0 r (omega arith) le in
    let at : get_or (range_with_len 0 22) d.0 0 ≡ d.0 = get_or-range_with_len 0 22 d.0 0 d.1 ∙ omega arith in
    list_any_at (λ (k : ℕ). eqb (doubled_buckets r 64 r) (64 * 2 ^ k)) (range_with_len 0 22) d.0 0 (omega (arith, d.1, length-range_with_len 0 22))
    (ap (λ (k : ℕ). eqb (doubled_buckets r 64 r) (64 * 2 ^ k)) at ∙ eq-eqb (doubled_buckets r 64 r) (64 * 2 ^ d.0) d.2)

-- unit 1 of an image says where its units end
pub image_size : (rows : List Row) (bytes : List ℕ) → IsDraftOf rows (bucket_count (length rows)) bytes → word 0 (take 16 bytes) ≡ units_for rows
image_size rows bytes is =
    let first : unit_at (units_of bytes) 0 ≡ take 16 bytes = unit_at-cut_up (length bytes / 16) bytes 0 (omega (arith, is.long)) in
    ap (word 0) (sym first) ∙ is.used

-- and ends in zero
pub image_zero : (rows : List Row) (buckets : ℕ) (bytes : List ℕ) → IsDraftOf rows buckets bytes → EndsInZero (take 16 bytes)
image_zero rows buckets bytes is =
    let first : unit_at (units_of bytes) 0 ≡ take 16 bytes = unit_at-cut_up (length bytes / 16) bytes 0 (omega (arith, is.long)) in
    ap (word 3) (sym first) ∙ is.last

-- what unit 1 of an image says suits the file that holds it
pub image_ordered : (rows : List Row) (bytes : List ℕ) (units : ℕ) → IsDraftOf rows (bucket_count (length rows)) bytes → first_record
    (bucket_count (length rows)) + live_of rows ≤ 2 ^ 28 → length rows ≤ 2 ^ 28
    → 1 + length bytes / 16 ≤ units → is_ordered (bucket_count (length rows)) (take 16 bytes) units ≡ true
unfolding is_ordered
image_ordered rows bytes units is room few_rows long =
    let B = bucket_count (length rows) in
    let first : unit_at (units_of bytes) 0 ≡ take 16 bytes = unit_at-cut_up (length bytes / 16) bytes 0 (omega (arith, is.long)) in
    let used : word 0 (take 16 bytes) ≡ first_record B + live_of rows = ap (word 0) (sym first) ∙ is.used in
    let count : word 1 (take 16 bytes) ≡ length rows = ap (word 1) (sym first) ∙ is.count in
    let live : word 2 (take 16 bytes) ≡ live_of rows = ap (word 2) (sym first) ∙ is.live in
    let from : first_record B ≤ word 0 (take 16 bytes) = omega (arith, used) in
    let to : word 0 (take 16 bytes) ≤ min units (2 ^ 28) = omega (arith, used, is.long, long, room) in
    let few_enough : word 1 (take 16 bytes) ≤ 2 * B = omega (arith, count, count_enough (length rows)) in
    let alive : word 2 (take 16 bytes) ≤ word 0 (take 16 bytes) - first_record B = omega (arith, used, live) in
    let dead : word 0 (take 16 bytes) - first_record B - word 2 (take 16 bytes) ≤ word 2 (take 16 bytes) = omega (arith, used, live) in
    and_from _ _ (count_is (length rows) few_rows)
    (and_from _ _ (le-leb _ _ from)
    (and_from _ _ (le-leb _ _ to)
    (and_from _ _ (le-leb _ _ few_enough)
    (and_from _ _ (le-leb _ _ alive) (le-leb _ _ dead)))))
