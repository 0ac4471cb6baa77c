-- What it says that the first two units are in order.
use Rattle.std.proofs.Common.{◌≡◌, ℕ, ◌+◌, ◌-◌, ◌*◌, ◌%◌, ◌^◌, ◌<◌, ◌≤◌, List, min, true, eqb, leb, sym, ap, ◌∙◌, arith, subst}
use Rattle.rpm_hindex.proofs.Vocabulary.{buckets_of, Extent, first_record, is_bucket_count, is_headed, is_in_order, is_ordered, HasBuckets, KeepsIndexValue, range_with_len}
use Rattle.rpm_hindex.proofs.Vocabulary.{IndexState, Units, word}
use Rattle.std.proofs.lemmas.Bool.{and_parts, eqb-true, leb-true}
use Rattle.std.proofs.lemmas.List.Folds.{Any-from_list_any}
use Rattle.std.proofs.lemmas.List.FromFn.{get_or-range_with_len, length-range_with_len}
use Rattle.std.proofs.Math.Nat.{pow-le-pow_right}
use Rattle.std.proofs.lemmas.Nat.{pow_pos}

-- 64, doubled k times
pub record BucketCount (buckets : ℕ) : Type 0 where
  pub k : ℕ
  pub below : k < 22
  pub is : buckets ≡ 64 * 2 ^ k

pub count_parts : (buckets : ℕ) → is_bucket_count buckets ≡ true → BucketCount buckets
unfolding is_bucket_count
count_parts buckets e =
    let any = Any-from_list_any (λ (k : ℕ). eqb buckets (64 * 2 ^ k)) (range_with_len 0 22) e in
    let lt : any.0 < 22 = omega (arith, any.2, length-range_with_len 0 22) in
    let is : any.1 ≡ any.0 = sym any.3 ∙ get_or-range_with_len 0 22 any.0 any.1 lt ∙ omega arith in
    record { k = any.0; below = lt; is = eqb-true buckets (64 * 2 ^ any.1) any.4 ∙ ap (λ (j : ℕ). 64 * 2 ^ j) is }

pub record Ordered (buckets : ℕ) (second : List ℕ) (units : ℕ) : Type 0 where
  pub count : is_bucket_count buckets ≡ true
  pub from : first_record buckets ≤ word 0 second
  pub within : word 0 second ≤ units
  pub most : word 0 second ≤ 2 ^ 28
  pub few : word 1 second ≤ 2 * buckets
  pub live : word 2 second ≤ word 0 second - first_record buckets
  pub dead : word 0 second - first_record buckets - word 2 second ≤ word 2 second

pub ordered_parts : (buckets : ℕ) (second : List ℕ) (units : ℕ) → is_ordered buckets second units ≡ true → Ordered buckets second units
unfolding is_ordered
ordered_parts buckets second units e =
    let a = and_parts (is_bucket_count buckets) _ e in
    let b = and_parts (leb (first_record buckets) (word 0 second)) _ a.1 in
    let d = and_parts (leb (word 0 second) (min units (2 ^ 28))) _ b.1 in
    let f = and_parts (leb (word 1 second) (2 * buckets)) _ d.1 in
    let h = and_parts (leb (word 2 second) (word 0 second - first_record buckets)) (leb (word 0 second - first_record buckets - word 2 second)
    (word 2 second)) f.1 in
    let m : word 0 second ≤ min units (2 ^ 28) = leb-true _ _ d.0 in
    record {
      count = a.0;
      from = leb-true _ _ b.0;
      within = omega (arith, m);
      most = omega (arith, m);
      few = leb-true _ _ f.0;
      live = leb-true _ _ h.0;
      dead = leb-true _ _ h.1;
    }

pow_most : (j k : ℕ) → j ≤ k → 2 ^ j ≤ 2 ^ k
pow_most j k le = pow-le-pow_right {n = 2} (omega arith) le

pub powers : (k : ℕ) → k < 22 → (1 ≤ 2 ^ k) × (2 ^ k ≤ 2097152)
powers k lt = (omega (arith, pow_pos k), pow_most k 21 (omega arith))

pub record Few (buckets : ℕ) : Type 0 where
  pub some : 64 ≤ buckets
  pub most : buckets ≤ 134217728
  pub fours : buckets % 4 ≡ 0

pub few : (buckets : ℕ) → is_bucket_count buckets ≡ true → Few buckets
few buckets e =
    let c = count_parts buckets e in
    let p = powers c.k c.below in
    record { some = omega (arith, c.is, p.0); most = omega (arith, c.is, p.1); fours = omega (arith, c.is) }

pub order_parts : (s : IndexState) → is_in_order s ≡ true → (is_headed s.first ≡ true) × (is_ordered (buckets_of s.first) s.second s.units ≡ true)
unfolding is_in_order
order_parts s e = and_parts (is_headed s.first) (is_ordered (buckets_of s.first) s.second s.units) e

pub open_from : (s : IndexState) (file : Units) → is_in_order s ≡ true → KeepsIndexValue file s → let e : Extent = record {
  buckets = word 3 s.first;
  used = word 0 s.second;
} in HasBuckets e file
open_from s file order keeps =
    let o = ordered_parts (buckets_of s.first) s.second s.units (order_parts s order).1 in
    record {
      fours = (few (buckets_of s.first) o.count).fours;
      used = ap (word 0) (sym keeps.second);
      some = o.from;
      within = omega (arith, o.within, keeps.units);
    }

-- what suits the first two units, of the extent that they give
pub record Started (s : IndexState) (e : Extent) : Type 0 where
  pub fours : e.buckets % 4 ≡ 0
  pub some : 0 < e.buckets
  pub few : e.buckets ≤ 2 ^ 27
  pub front : first_record e.buckets ≤ e.used
  pub room : e.used ≤ 2 ^ 28
  pub live : first_record e.buckets + word 2 s.second ≤ e.used
  pub records : word 1 s.second ≤ 2 * e.buckets
  pub fits : e.used ≤ s.units
  pub count : is_bucket_count e.buckets ≡ true

pub started : (s : IndexState) (e : Extent) → is_in_order s ≡ true → e ≡ record { buckets = word 3 s.first; used = word 0 s.second } → Started s e
started s e order is =
    let o = ordered_parts (buckets_of s.first) s.second s.units (order_parts s order).1 in
    let f = few (buckets_of s.first) o.count in
    let here : Started s (record { buckets = word 3 s.first; used = word 0 s.second }) = record {
      fours = f.fours;
      some = omega (arith, f.some);
      few = omega (arith, f.most);
      front = o.from;
      room = o.most;
      live = omega (arith, o.live, o.from);
      records = o.few;
      fits = o.within;
      count = o.count;
    } in
    subst (Started s) (sym is) here
