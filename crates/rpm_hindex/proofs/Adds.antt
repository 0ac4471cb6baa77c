-- A record more.
use Rattle.std.proofs.Common.{◌≡◌, ℕ, zero, suc, ◌+◌, ◌%◌, ◌^◌, ◌<◌, ◌≤◌, List, [], ◌∷◌, length, true, cond, eqb, refl, sym, ap, ◌∙◌, arith, subst, inl, inr}
use Rattle.std.specs.Prelude.{◌⊎◌}
use Rattle.rpm_hindex.proofs.Vocabulary.{AddsPadded, all_places, bucket_of, Contains, first_record, flat_map, hash_of, Index, is_link, IsPadded, IsWhole}
use Rattle.rpm_hindex.proofs.Vocabulary.{next_at, range_with_len, record_of, record_units, Row, row_at, rows_of, sum_by, times, times_one, unit_at, units_at}
use Rattle.std.proofs.lemmas.List.Sums.{sum_by-cons}
use Rattle.std.proofs.lemmas.Bool.{cases_eq, cond-true, cond-false, eq-eqb, ne_eqb}
use Rattle.rpm_hindex.specs.Rows.{same_row as same_rows}
use Rattle.rpm_hindex.proofs.Made.{made_next, made_size, row-made, made_padded}
use Rattle.rpm_hindex.proofs.Chains.{Sound}
use Rattle.rpm_hindex.proofs.FollowedLinks.{IsChain, within, link_at}
use Rattle.rpm_hindex.proofs.Wholes.{HasChains, chains_ok, all_are, in_all, all_in}
use Rattle.rpm_hindex.proofs.Extends.{Extends, Stands, stands_in, sound_whole, units_same, same_units, same_row, chain_extends, heads_extend}
use Rattle.rpm_hindex.proofs.Padding.{remains}
use Rattle.rpm_hindex.proofs.Tallies.{tally, times_rows, sum_flat, sum_at, sum_each, length_sum}

-- y is x with a record of this row after all others, in front of its bucket's chain
pub record AddsRecord (x y : Index) (kind : ℕ) (key : List ℕ) (number place : ℕ) : Type 0 where
  pub buckets : y.buckets ≡ x.buckets
  pub used : y.used ≡ x.used + record_units (length key)
  pub old : (i : ℕ) → first_record x.buckets ≤ i → i < x.used → y.unit i ≡ x.unit i
  pub new : (k : ℕ) → k < record_units (length key) → y.unit (x.used + k) ≡ unit_at (record_of (x.head (hash_of kind key % x.buckets)) kind key number place) k
  pub head : y.head (hash_of kind key % x.buckets) ≡ x.used
  pub heads : (b : ℕ) → b < x.buckets → (b ≡ hash_of kind key % x.buckets → ⊥) → y.head b ≡ x.head b

pub record AddsWithin (x : Index) (kind : ℕ) (key : List ℕ) (number place : ℕ) : Type 0 where
  pub bucket : hash_of kind key % x.buckets < x.buckets
  pub front : first_record x.buckets ≤ x.used
  pub small : x.used ≤ 2 ^ 28
  pub kinds : kind < 16
  pub short : length key < 2 ^ 28
  pub numbers : number < 2 ^ 32
  pub places : place < 2 ^ 32

in_front : (q : ℕ) (ps : List ℕ) (p : ℕ) → Contains (q ∷ ps) p → (p ≡ q) ⊎ Contains ps p
in_front q ps p (zero, lt, e) = inl (sym e)
in_front q ps p (suc k, lt, e) = inr (k, omega arith, e)

module _ (x y : Index) (kind : ℕ) (key : List ℕ) (number place : ℕ) (adds : AddsRecord x y kind key number place)
    (w : AddsWithin x kind key number place) (ps : ℕ → List ℕ) (has : HasChains x ps) where
  abbrev bucket : ℕ
  bucket = hash_of kind key % x.buckets

  abbrev row : Row
  row = record { kind = kind; key = key; number = number; place = place }

  link : is_link x (x.head bucket) ≡ true
  link = (has bucket w.bucket).0

  small_head : x.head bucket < 2 ^ 28
  small_head = elim (cases_eq (x.head bucket) 0) [
    | inl zeros ↦ omega (arith, zeros)
    | inr some ↦ omega (arith, within x (x.head bucket) link (omega (arith, some)), w.small)
  ]

  lower_head : x.head bucket < x.used
  lower_head = elim (cases_eq (x.head bucket) 0) [
    | inl zeros ↦ omega (arith, zeros, w.front)
    | inr some ↦ within x (x.head bucket) link (omega (arith, some))
  ]

  next_is : next_at y.unit x.used ≡ x.head bucket
  next_is = made_next (x.head bucket) kind key number place (omega (arith, small_head)) w.kinds w.short w.numbers w.places y.unit x.used adds.new

  units_are : units_at y.unit x.used ≡ record_units (length key)
  units_are = ap record_units (made_size (x.head bucket) kind key number place (omega (arith, small_head)) w.kinds w.short w.numbers w.places y.unit
      x.used adds.new)

  row_is : row_at y.unit x.used ≡ row
  row_is = row-made (x.head bucket) kind key number place (omega (arith, small_head)) w.kinds w.short w.numbers w.places y.unit x.used adds.new

  extends : Extends x y
  extends = record { buckets = adds.buckets; used = omega (arith, adds.used); units = adds.old }

  sound_new : Sound y bucket x.used
  sound_new = record {
    link = ap (is_link y) next_is ∙ heads_extend x y extends bucket link;
    falls = omega (arith, next_is, lower_head);
    ends = omega (arith, units_are, adds.used);
    bucket = ap (λ (r : Row). bucket_of y.buckets r) row_is ∙ ap (λ (n : ℕ). hash_of kind key % n) adds.buckets;
  }

  -- the places with the new one
  abbrev pub more : ℕ → List ℕ
  more b = cond (eqb b bucket) (x.used ∷ ps b) (ps b)

  more_here : more bucket ≡ x.used ∷ ps bucket
  more_here = cond-true (eqb bucket bucket) (x.used ∷ ps bucket) (ps bucket) (eq-eqb bucket bucket refl)

  more_other : (b : ℕ) → (b ≡ bucket → ⊥) → more b ≡ ps b
  more_other b other = cond-false (eqb b bucket) (x.used ∷ ps b) (ps b) (ne_eqb b bucket other)

  chain_new : IsChain y bucket x.used (x.used ∷ ps bucket)
  chain_new = (
    refl,
    omega (arith, w.front),
    sound_whole y bucket x.used sound_new,
    subst (λ (n : ℕ). IsChain y bucket n (ps bucket)) (sym next_is) (chain_extends x y extends bucket (x.head bucket) (ps bucket) link (has bucket w.bucket).1),
  )

  front_link : is_link y x.used ≡ true
  front_link = link_at y x.used (subst (λ (n : ℕ). first_record n ≤ x.used) (sym adds.buckets) w.front) (omega (arith, adds.used))

  pub has_more : HasChains y more
  has_more b below = elim (cases_eq b bucket) [
    | inl here ↦
        let head : y.head b ≡ x.used = ap y.head here ∙ adds.head in
        let chain : IsChain y b x.used (more b) = subst (λ (k : ℕ). IsChain y k x.used (more k)) (sym here)
        (subst (IsChain y bucket x.used) (sym more_here) chain_new) in
        (ap (is_link y) head ∙ front_link, subst (λ (n : ℕ). IsChain y b n (more b)) (sym head) chain)
    | inr other ↦
        let lt : b < x.buckets = subst (λ (n : ℕ). b < n) adds.buckets below in
        let head = adds.heads b lt other in
        let h = has b lt in
        let chain : IsChain y b (x.head b) (more b) = subst (IsChain y b (x.head b)) (sym (more_other b other))
        (chain_extends x y extends b (x.head b) (ps b) h.0 h.1) in
        (ap (is_link y) head ∙ heads_extend x y extends b h.0, subst (λ (n : ℕ). IsChain y b n (more b)) (sym head) chain)
  ]

  -- a sum over all records rises by that of the new one
  pub sum_more : (f : ℕ → ℕ) → sum_by f (all_places y) ≡ sum_by f (all_places x) + f x.used
  sum_more f =
      ap (sum_by f) (all_are y more has_more ∙ ap (λ (n : ℕ). flat_map more (range_with_len 0 n)) adds.buckets)
      ∙ sum_flat f more 0 x.buckets
      ∙ sum_at (λ b. sum_by f (more b)) (λ b. sum_by f (ps b)) bucket (f x.used) 0 x.buckets (omega arith) (omega (arith, w.bucket))
      (ap (sum_by f) more_here ∙ sum_by-cons f x.used (ps bucket) ∙ omega arith)
      (λ b ge lt other. ap (sum_by f) (more_other b other))
      ∙ ap (λ (n : ℕ). n + f x.used) (sym (ap (sum_by f) (all_are x ps has) ∙ sum_flat f ps 0 x.buckets))

  stands : (p : ℕ) → Contains (all_places x) p → (b : ℕ) × Stands x b p
  stands p c =
      let i = in_all x ps has p c in
      let h = has i.0 i.1 in
      (i.0, stands_in x i.0 (x.head i.0) (ps i.0) h.0 h.1 p i.2)

  old_units : (p : ℕ) → Contains (all_places x) p → units_at y.unit p ≡ units_at x.unit p
  old_units p c = let s = stands p c in units_same x.unit y.unit p (same_units x y extends s.0 p s.1)

  old_tally : (r : Row) (p : ℕ) → Contains (all_places x) p → tally y.unit r p ≡ tally x.unit r p
  old_tally r p c = let s = stands p c in ap (λ (q : Row). cond (same_rows r q) 1 0) (same_row x y extends s.0 p s.1)

  -- each row as often, and the new one once more
  pub times_more : (r : Row) → times r (rows_of y) ≡ times r (rows_of x) + times r (row ∷ [])
  times_more r =
      let new : tally y.unit r x.used ≡ times r (row ∷ []) = ap (λ (q : Row). cond (same_rows r q) 1 0) row_is ∙ sym (times_one r row) in
      times_rows y r
      ∙ sum_more (tally y.unit r)
      ∙ ap (λ (n : ℕ). n + tally y.unit r x.used) (sum_each (tally y.unit r) (tally x.unit r) (all_places x) (old_tally r) ∙ sym (times_rows x r))
      ∙ ap (λ (n : ℕ). times r (rows_of x) + n) new

  -- which places there are
  places_more : (p : ℕ) → Contains (all_places y) p → (p ≡ x.used) ⊎ Contains (all_places x) p
  places_more p c =
      let i = in_all y more has_more p c in
      let lt : i.0 < x.buckets = subst (λ (n : ℕ). i.0 < n) adds.buckets i.1 in
      elim (cases_eq i.0 bucket) [
        | inl here ↦
            let front : Contains (x.used ∷ ps bucket) p = subst (λ (qs : List ℕ). Contains qs p) more_here (subst (λ (b : ℕ). Contains (more b) p) here i.2) in
            elim (in_front x.used (ps bucket) p front) [
              | inl is ↦ inl is
              | inr old ↦ inr (all_in x ps has p bucket w.bucket old)
            ]
        | inr other ↦ inr (all_in x ps has p i.0 lt (subst (λ (qs : List ℕ). Contains qs p) (more_other i.0 other) i.2))
      ]

  padded_new : IsPadded y.unit x.used
  padded_new = made_padded (x.head bucket) kind key number place (omega (arith, small_head)) w.kinds w.short w.numbers w.places y.unit x.used adds.new

  -- the new one is padded, and the others are as they were
  pub padded_more : AddsPadded x y
  padded_more p c = elim (places_more p c) [
    | inl new ↦ inl (subst (IsPadded y.unit) (sym new) padded_new)
    | inr old ↦
        let s = stands p old in
        inr (remains x y extends s.0 p s.1 old)
  ]

  pub whole_more : (count live : ℕ) → IsWhole count live x → IsWhole (count + 1) (live + record_units (length key)) y
  whole_more count live whole = record {
    chains = chains_ok y more has_more;
    apart = λ a b ca cb lt. elim (places_more a ca) [
      | inl new ↦ elim (places_more b cb) [
        | inl both ↦ absurd (omega (arith, new, both))
        | inr old ↦ let s = stands b old in absurd (omega (arith, new, lt, s.1.sound.ends))
      ]
      | inr oldest ↦
          let s = stands a oldest in
          elim (places_more b cb) [
            | inl new ↦ omega (arith, old_units a oldest, new, s.1.sound.ends)
            | inr old ↦ omega (arith, old_units a oldest, whole.apart a b oldest old lt)
          ]
    ];
    records = length_sum (all_places y) ∙ sum_more (λ p. 1) ∙ ap (λ (n : ℕ). n + 1) (sym (length_sum (all_places x)) ∙ whole.records);
    live = sum_more (units_at y.unit) ∙ ap (λ (n : ℕ). n + units_at y.unit x.used) (sum_each (units_at y.unit) (units_at x.unit) (all_places x)
        old_units ∙ whole.live) ∙ ap (λ (n : ℕ). live + n) units_are;
  }
