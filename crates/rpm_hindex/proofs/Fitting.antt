-- The rows of an index that is in order have room in one made from scratch.
use Rattle.std.proofs.Common.{◌≡◌, ℕ, zero, suc, ◌+◌, ◌*◌, ◌/◌, ◌^◌, ◌≤◌, List, [], ◌∷◌, ◌++◌, length, length-append, map, leb, true, sym, ap, ◌∙◌, arith, inl, inr}
use Rattle.rpm_hindex.proofs.Vocabulary.{file_after, after_tail, after_units, all_places, bucket_count, buckets_after, bytes_of, CanWrite, doubled_buckets, HasChanged}
use Rattle.rpm_hindex.proofs.Vocabulary.{HasLess, HasUnitsFor, Index, index_in, index_units, InPlace, is_bucket_count, IsPlanFor, IsWhole, key_units}
use Rattle.rpm_hindex.proofs.Vocabulary.{LeavesOrder, length-cut_up, length_at, live-append, live_of, put_inside, record_units, records, Row, row_at, rows_of}
use Rattle.rpm_hindex.proofs.Vocabulary.{units_from, SameRows, Scratch, second_after, sum_by, times, times-append, times_none, unit_at, unit_at-cut_up, Units}
use Rattle.rpm_hindex.proofs.Vocabulary.{units_after, units_at, units_for, units_of, word, Work}
use Rattle.std.proofs.lemmas.Bool.{cases_lt, cond-true, cond-false, le-leb, lt-leb}
use Rattle.std.proofs.lemmas.List.{length-map, length-take}
use Rattle.std.proofs.lemmas.List.Sums.{sum_by-cons}
use Rattle.std.proofs.Math.Nat.{pow-le-pow_right, pow-succ'}
use Rattle.rpm_hindex.proofs.Orders.{count_parts, ordered_parts}
use Rattle.rpm_hindex.proofs.Same.{units_same_rows, length_same_rows, live_same_rows}

-- ---- the least count of buckets

pow_up : (j k : ℕ) → j ≤ k → 64 * 2 ^ j ≤ 64 * 2 ^ k
pow_up j k le = let up : 2 ^ j ≤ 2 ^ k = pow-le-pow_right {n = 2} (omega arith) le in omega arith

least : (n j k r : ℕ) → j ≤ k → r ≤ 2 * (64 * 2 ^ k) → doubled_buckets n (64 * 2 ^ j) r ≤ 64 * 2 ^ k
least zero j k r le fits = pow_up j k le
least (suc n) j k r le fits = elim (cases_lt (2 * (64 * 2 ^ j)) r) [
  | inl more ↦
      let next : 2 * (64 * 2 ^ j) ≡ 64 * 2 ^ (suc j) = omega (arith, pow-succ' 2 j) in
      let is : doubled_buckets (suc n) (64 * 2 ^ j) r ≡ doubled_buckets n (2 * (64 * 2 ^ j)) r = cond-false (leb r (2 * (64 * 2 ^ j))) (64 * 2 ^ j) _
      (lt-leb r (2 * (64 * 2 ^ j)) more) in
      let below : suc j ≤ k = elim (cases_lt j k) [ inl lt ↦ omega (arith, lt) | inr ge ↦ let up = pow_up k j ge in absurd (omega (arith, up, more, fits)) ] in
      omega (arith, is, ap (λ (b : ℕ). doubled_buckets n b r) next, least n (suc j) k r below fits)
  | inr done ↦
      let is : doubled_buckets (suc n) (64 * 2 ^ j) r ≡ 64 * 2 ^ j = cond-true (leb r (2 * (64 * 2 ^ j))) (64 * 2 ^ j) _ (le-leb r (2 * (64 * 2 ^ j)) done) in
      omega (arith, is, pow_up j k le)
]

pub count_least : (buckets r : ℕ) → is_bucket_count buckets ≡ true → r ≤ 2 * buckets → bucket_count r ≤ buckets
unfolding bucket_count
count_least buckets r is fits =
    let c = count_parts buckets is in
    omega (arith, c.is, least r 0 c.k r (omega arith) (omega (arith, fits, c.is)))

-- ---- rows need no more units than their records

key_least : (unit : ℕ → List ℕ) (at : ℕ) → record_units (length (row_at unit at).key) ≤ units_at unit at
unfolding row_at
key_least unit at =
    let n = length_at unit at in
    let bytes = bytes_of (units_from unit (at + 1) (key_units n)) in
    omega (arith, length-take n bytes)

live_least : (unit : ℕ → List ℕ) (ps : List ℕ) → live_of (map (row_at unit) ps) ≤ sum_by (units_at unit) ps
unfolding live_of
live_least unit [] = omega arith
live_least unit (p ∷ ps) =
    omega (
      arith,
      sum_by-cons (λ (r : Row). record_units (length r.key)) (row_at unit p) (map (row_at unit) ps),
      sum_by-cons (units_at unit) p ps,
      key_least unit p,
      live_least unit ps,
    )

rows_least : (x : Index) → (length (rows_of x) ≡ length (all_places x)) × (live_of (rows_of x) ≤ sum_by (units_at x.unit) (all_places x))
unfolding rows_of
rows_least x = (length-map (all_places x) (row_at x.unit), live_least x.unit (all_places x))

-- how many rows there are after drops and adds, and their units at most
pub changed_least : (x : Index) (count live : ℕ) (drops adds old new : List Row) → IsWhole count live x → HasLess drops old (rows_of x) → HasChanged
    drops adds old new
    → (length new ≡ count + length adds) × (live_of new ≤ live + live_of adds)
changed_least x count live drops adds old new whole less changed =
    let few = rows_least x in
    let same : SameRows (rows_of x ++ adds) new = λ r. changed r ∙ sym (times-append r (rows_of x) adds ∙ ap (λ (n : ℕ). n + times r adds) (less r)) in (
      omega (arith, length_same_rows (rows_of x ++ adds) new same, length-append (rows_of x) adds, few.0, whole.records),
      omega (arith, live_same_rows (rows_of x ++ adds) new same, live-append (rows_of x) adds, few.1, whole.live),
    )

-- rows that are added have room where the counts of an index leave it
pub room_by_counts : (x : Index) (count live : ℕ) (adds : List Row) → IsWhole count live x
    → index_units (count + length adds) (live + live_of adds) ≤ 2 ^ 28 → HasUnitsFor [] adds (rows_of x)
room_by_counts x count live adds whole fits = λ new changed.
    let least = changed_least x count live [] adds (rows_of x) new whole (λ row. omega (arith, times_none row)) changed in
    let same : units_for new ≡ index_units (count + length adds) (live_of new) = ap (λ (n : ℕ). index_units n (live_of new)) least.0 in
    omega (arith, same, least.1, fits)

-- ---- what a plan leaves

second_is : (work : Work) (file : Units) (units : ℕ) → CanWrite units work → unit_at (file_after work file) 1 ≡ second_after work
second_is (InPlace p) file units can = put_inside 1 (p.second ∷ []) (after_tail p.used p.tail.items (after_units p.units.items file)) 0 (omega arith)
second_is (Scratch image) file units can =
    let bytes = image.bytes.items in
    put_inside 1 (units_of bytes) _ 0 (omega (arith, can.0, length-cut_up (length bytes / 16) bytes))
    ∙ unit_at-cut_up (length bytes / 16) bytes 0 (omega (arith, can.0))

pub plan_fits : (drops adds : List Row) (buckets : ℕ) (file : Units) (work : Work) (units : ℕ) → CanWrite units work → LeavesOrder work
    → IsPlanFor drops adds buckets file work → HasUnitsFor drops adds (records buckets file)
unfolding IsPlanFor
plan_fits drops adds buckets file work units can order plan = λ new changed.
    let B = buckets_after work in
    let later = file_after work file in
    let x : Index = index_in B later in
    let second = second_is work file units can in
    let o = ordered_parts B (second_after work) (units_after work) (order (units_after work) (omega arith)) in
    let few = rows_least x in
    let long : length (rows_of x) ≤ 2 * B = omega (arith, few.0, plan.whole.records, ap (word 1) second, o.few) in
    let live : live_of (rows_of x) ≤ word 2 (second_after work) = omega (arith, few.1, plan.whole.live, ap (word 2) second) in
    let same = units_same_rows (rows_of x) new (λ r. changed r ∙ sym (plan.rows r)) in
    omega (arith, same, count_least B (length (rows_of x)) o.count long, live, o.live, o.from, o.most)
