-- The hits of one chain are those of the whole index.
use Rattle.std.proofs.Common.{◌≡◌, ℕ, ◌+◌, ◌%◌, ◌<◌, List, [], ◌∷◌, map, Bool, true, cond, eqb, Ok, refl, sym, ap, ◌∙◌, arith, zero-add}
use Rattle.rpm_hindex.proofs.Vocabulary.{AsOften, bucket_of, bytes_eq, chain, Contains, hash_of, Hit, Index, IsWhole, places_in, places_of, Row, row_at}
use Rattle.rpm_hindex.proofs.Vocabulary.{row_of_hit, rows_of, same_row, sum_by, times}
use Rattle.std.proofs.lemmas.Bool.{and_parts, eqb-true, false_from_ne_true}
use Rattle.std.proofs.lemmas.Slice.Eq.{bytes_eq-Decides}
use Rattle.rpm_hindex.proofs.Chains.{sound_parts}
use Rattle.rpm_hindex.proofs.Wholes.{HasChains, has_chains, sound_of, all_are}
use Rattle.rpm_hindex.proofs.Tallies.{tally, times_map, times_rows, sum_flat, sum_at, sum_zeros, sum_each}

-- rows that count as the same are in the same bucket
pub same_bucket : (buckets : ℕ) (a b : Row) → same_row a b ≡ true → bucket_of buckets a ≡ bucket_of buckets b
same_bucket buckets a b e =
    let p = and_parts (eqb a.kind b.kind) _ e in
    let q = and_parts (bytes_eq a.key b.key) _ p.1 in
    let kinds = eqb-true a.kind b.kind p.0 in
    let keys = (bytes_eq-Decides a.key b.key).0 q.0 in
    ap (λ (k : ℕ). hash_of k a.key % buckets) kinds ∙ ap (λ (k : List ℕ). hash_of b.kind k % buckets) keys

pub zeros_of : (f : ℕ → ℕ) (ps : List ℕ) → ((p : ℕ) → Contains ps p → f p ≡ 0) → sum_by f ps ≡ 0
zeros_of f ps none = sum_each f (λ p. 0) ps none ∙ all_zero ps where
  all_zero : (qs : List ℕ) → sum_by (λ (p : ℕ). 0) qs ≡ 0
  all_zero [] = refl
  all_zero (q ∷ qs) = all_zero qs

module _ (x : Index) (ps : ℕ → List ℕ) (has : HasChains x ps) (row : Row) where
  -- a row is in no chain but that of its bucket
  elsewhere : (b : ℕ) → b < x.buckets → (b ≡ bucket_of x.buckets row → ⊥) → sum_by (tally x.unit row) (ps b) ≡ 0
  elsewhere b below other = zeros_of (tally x.unit row) (ps b) (λ p c.
      let s = sound_parts x b p ((sound_of x ps has b p below c).1) in
      ap (λ (t : Bool). cond t 1 0) (false_from_ne_true (same_row row (row_at x.unit p))
      (λ e. other (sym s.bucket ∙ sym (same_bucket x.buckets row (row_at x.unit p) e)))))

  pub in_its_bucket : bucket_of x.buckets row < x.buckets → times row (rows_of x) ≡ times row (map (row_at x.unit) (ps (bucket_of x.buckets row)))
  in_its_bucket below =
      let b = bucket_of x.buckets row in
      let f : ℕ → ℕ = λ k. sum_by (tally x.unit row) (ps k) in
      times_rows x row
      ∙ ap (sum_by (tally x.unit row)) (all_are x ps has)
      ∙ sum_flat (tally x.unit row) ps 0 x.buckets
      ∙ sum_at f (λ k. 0) b (f b) 0 x.buckets (omega arith) (omega arith) (sym (zero-add (f b))) (λ k ge lt other. elsewhere k (omega arith) other)
      ∙ ap (λ (n : ℕ). n + f b) (sum_zeros 0 x.buckets)
      ∙ zero-add (f b)
      ∙ sym (times_map x.unit row (ps b))

ok_is : (x : Index) (b : ℕ) (places : List ℕ) → chain x b ≡ Ok places → places_of x b ≡ places
unfolding places_of
ok_is x b places e = ap places_in e

pub often_in_all : (count live kind : ℕ) (key : List ℕ) (x : Index) (places : List ℕ) (hits : List Hit) → IsWhole count live x → hash_of kind key %
    x.buckets < x.buckets → chain x (hash_of kind key % x.buckets) ≡ Ok places → AsOften kind key (map (row_at x.unit) places) hits → AsOften kind key
    (rows_of x) hits
often_in_all count live kind key x places hits whole below e often h =
    let has = has_chains x whole.chains in
    often h
    ∙ ap (λ (ps : List ℕ). times (row_of_hit kind key h) (map (row_at x.unit) ps)) (sym (ok_is x (hash_of kind key % x.buckets) places e))
    ∙ sym (in_its_bucket x (places_of x) has (row_of_hit kind key h) below)
