-- The rows of the places that are kept.
use Rattle.std.proofs.Common.{◌≡◌, ℕ, zero, suc, ◌+◌, ◌<◌, ◌≤◌, List, [], ◌∷◌, map, reverse, Bool, true, false, cond, sym, ap, ◌∙◌, arith, subst, inl, inr}
use Rattle.rpm_hindex.proofs.Vocabulary.{all_places, bucket_of, Contains, filter, flat_map, HasLess, Index, kept_of, next_at, places_of}
use Rattle.rpm_hindex.proofs.Vocabulary.{range_with_len, Row, row_at, rows_of, same_is, sum_by, times, times-append, times_none, times_one}
use Rattle.std.proofs.lemmas.List.Sums.{sum_by-cons}
use Rattle.std.proofs.lemmas.List.Sorted.{sum_by-IsPermutation, IsPermutation-reverse}
use Rattle.std.proofs.lemmas.Bool.{cases_Bool, cond-true, cond-false}
use Rattle.rpm_hindex.specs.Rows.{same_row as same_rows}
use Rattle.rpm_hindex.proofs.Chains.{sound_parts}
use Rattle.rpm_hindex.proofs.FollowedLinks.{IsChain}
use Rattle.rpm_hindex.proofs.Wholes.{HasChains, in_all, sound_of}
use Rattle.rpm_hindex.proofs.Drops.{chain_falls}
use Rattle.rpm_hindex.proofs.Founds.{same_bucket, zeros_of}
use Rattle.rpm_hindex.proofs.Tallies.{tally, times_map, times_rows, sum_flat, sum_same, sum_at, sum_each}

-- what a place adds to the count of a row, where it is kept
abbrev pub kept_tally : (ℕ → List ℕ) → (ℕ → Bool) → Row → ℕ → ℕ
kept_tally unit kept row at = cond (kept at) (tally unit row at) 0

times_filter : (u : ℕ → List ℕ) (kept : ℕ → Bool) (r : Row) (ps : List ℕ) → times r (map (row_at u) (filter kept ps)) ≡ sum_by (kept_tally u kept r) ps
times_filter u kept r [] = times_none r
times_filter u kept r (p ∷ ps) = elim (cases_Bool (kept p)) [
  | inl stays ↦
      let is : filter kept (p ∷ ps) ≡ p ∷ filter kept ps = cond-true (kept p) (p ∷ filter kept ps) (filter kept ps) stays in
      ap (λ (qs : List ℕ). times r (map (row_at u) qs)) is
      ∙ times_map u r (p ∷ filter kept ps)
      ∙ sum_by-cons (tally u r) p (filter kept ps)
      ∙ ap (λ (n : ℕ). n + sum_by (tally u r) (filter kept ps)) (sym (cond-true (kept p) (tally u r p) 0 stays))
      ∙ ap (λ (n : ℕ). kept_tally u kept r p + n) (sym (times_map u r (filter kept ps)) ∙ times_filter u kept r ps)
      ∙ sym (sum_by-cons (kept_tally u kept r) p ps)
  | inr gone ↦
      let is : filter kept (p ∷ ps) ≡ filter kept ps = cond-false (kept p) (p ∷ filter kept ps) (filter kept ps) gone in
      let none : kept_tally u kept r p ≡ 0 = cond-false (kept p) (tally u r p) 0 gone in
      ap (λ (qs : List ℕ). times r (map (row_at u) qs)) is
      ∙ times_filter u kept r ps
      ∙ omega (arith, none, sum_by-cons (kept_tally u kept r) p ps)
]

pub times_flat : (r : Row) (h : ℕ → List Row) (a n : ℕ) → times r (flat_map h (range_with_len a n)) ≡ sum_by (λ (b : ℕ). times r (h b)) (range_with_len a n)
times_flat r h a zero = times_none r
times_flat r h a (suc n) =
    times-append r (h a) (flat_map h (range_with_len (a + 1) n))
    ∙ ap (λ (m : ℕ). times r (h a) + m) (times_flat r h (a + 1) n)
    ∙ sym (sum_by-cons (λ (b : ℕ). times r (h b)) a (range_with_len (a + 1) n))

pub times_kept : (x : Index) (kept : ℕ → Bool) (r : Row) → times r (kept_of x kept) ≡ sum_by (kept_tally x.unit kept r) (all_places x)
unfolding all_places
times_kept x kept r =
    times_flat r (λ (b : ℕ). map (row_at x.unit) (filter kept (places_of x b))) 0 x.buckets
    ∙ sum_same (λ b. times r (map (row_at x.unit) (filter kept (places_of x b)))) (λ b. sum_by (kept_tally x.unit kept r) (places_of x b)) 0 x.buckets
    (λ b ge lt. times_filter x.unit kept r (places_of x b))
    ∙ sym (sum_flat (kept_tally x.unit kept r) (places_of x) 0 x.buckets)

-- where all are kept
pub kept_all : (x : Index) (kept : ℕ → Bool) (r : Row) → ((q : ℕ) → kept q ≡ true) → times r (kept_of x kept) ≡ times r (rows_of x)
kept_all x kept r all = times_kept x kept r ∙ sum_each (kept_tally x.unit kept r) (tally x.unit r) (all_places x)
    (λ q c. cond-true (kept q) (tally x.unit r q) 0 (all q)) ∙ sym (times_rows x r)

-- ---- a place more is dropped

chain_sum : (x : Index) (b at : ℕ) (ps : List ℕ) → IsChain x b at ps → (p : ℕ) → Contains ps p → (f g : ℕ → ℕ) (v : ℕ) → f p ≡ g p + v
    → ((q : ℕ) → (q ≡ p → ⊥) → f q ≡ g q) → sum_by f ps ≡ sum_by g ps + v
chain_sum x b at [] is p (k, lt, e) f g v here others = absurd (omega arith)
chain_sum x b at (q ∷ ps) (is, some, sound, rest) p (zero, lt, e) f g v here others =
    let s = sound_parts x b q sound in
    let same : sum_by f ps ≡ sum_by g ps = sum_each f g ps
    (λ r c. others r (λ again. absurd (omega (arith, chain_falls x b (next_at x.unit q) ps rest r c, s.falls, e, again)))) in
    let one : f q ≡ g q + v = subst (λ (k : ℕ). f k ≡ g k + v) (sym e) here in
    omega (arith, sum_by-cons f q ps, sum_by-cons g q ps, same, one)
chain_sum x b at (q ∷ ps) (is, some, sound, rest) p (suc k, lt, e) f g v here others =
    let s = sound_parts x b q sound in
    let c : Contains ps p = (k, omega arith, e) in
    let same : f q ≡ g q = others q (λ again. absurd (omega (arith, chain_falls x b (next_at x.unit q) ps rest p c, s.falls, again))) in
    omega (arith, sum_by-cons f q ps, sum_by-cons g q ps, same, chain_sum x b (next_at x.unit q) ps rest p c f g v here others)

module _ (x : Index) (has : HasChains x (places_of x)) where
  all_sum : (b p : ℕ) → b < x.buckets → Contains (places_of x b) p → (f g : ℕ → ℕ) (v : ℕ) → f p ≡ g p + v → ((q : ℕ) → (q ≡ p → ⊥) → f q ≡ g q)
      → sum_by f (all_places x) ≡ sum_by g (all_places x) + v
  unfolding all_places
  all_sum b p below c f g v here others =
      let elsewhere : (d : ℕ) → 0 ≤ d → d < 0 + x.buckets → (d ≡ b → ⊥) → sum_by f (places_of x d) ≡ sum_by g (places_of x d) = λ d ge lt other.
      sum_each f g (places_of x d) (λ q m. others q (λ same.
      let s = sound_parts x d q ((sound_of x (places_of x) has d q (omega arith) m).1) in
      let t = sound_parts x b p ((sound_of x (places_of x) has b p below c).1) in
      other (sym s.bucket ∙ ap (λ (k : ℕ). bucket_of x.buckets (row_at x.unit k)) same ∙ t.bucket))) in
      sum_flat f (places_of x) 0 x.buckets
      ∙ sum_at (λ d. sum_by f (places_of x d)) (λ d. sum_by g (places_of x d)) b v 0 x.buckets (omega arith) (omega arith)
      (chain_sum x b (x.head b) (places_of x b) ((has b below).1) p c f g v here others) elsewhere
      ∙ ap (λ (n : ℕ). n + v) (sym (sum_flat g (places_of x) 0 x.buckets))

  pub kept_less_one : (b p : ℕ) → b < x.buckets → Contains (places_of x b) p → (kept later : ℕ → Bool) → kept p ≡ true → later p ≡ false
      → ((q : ℕ) → (q ≡ p → ⊥) → later q ≡ kept q) → (r : Row)
      → times r (kept_of x kept) ≡ times r (kept_of x later) + tally x.unit r p
  kept_less_one b p below c kept later stays gone others r =
      let one : kept_tally x.unit kept r p ≡ tally x.unit r p = cond-true (kept p) (tally x.unit r p) 0 stays in
      let none : kept_tally x.unit later r p ≡ 0 = cond-false (later p) (tally x.unit r p) 0 gone in
      let here : kept_tally x.unit kept r p ≡ kept_tally x.unit later r p + tally x.unit r p = omega (arith, one, none) in
      times_kept x kept r
      ∙ all_sum b p below c (kept_tally x.unit kept r) (kept_tally x.unit later r) (tally x.unit r p)
      here
      (λ q other. ap (λ (t : Bool). cond t (tally x.unit r q) 0) (sym (others q other)))
      ∙ ap (λ (n : ℕ). n + tally x.unit r p) (sym (times_kept x later r))

  -- a row that none of its bucket's kept places has is nowhere
  pub kept_none : (row : Row) (kept : ℕ → Bool) → ((q : ℕ) → Contains (places_of x (bucket_of x.buckets row)) q → kept q ≡ true → same_rows row
      (row_at x.unit q) ≡ false) → times row (kept_of x kept) ≡ 0
  kept_none row kept none = times_kept x kept row ∙ zeros_of (kept_tally x.unit kept row) (all_places x) (λ q c.
      elim (cases_Bool (kept q)) [
        | inr gone ↦ cond-false (kept q) (tally x.unit row q) 0 gone
        | inl stays ↦
            let i = in_all x (places_of x) has q c in
            let s = sound_parts x i.0 q ((sound_of x (places_of x) has i.0 q i.1 i.2).1) in
            cond-true (kept q) (tally x.unit row q) 0 stays ∙ elim (cases_Bool (same_rows row (row_at x.unit q))) [
              | inr other ↦ cond-false (same_rows row (row_at x.unit q)) 1 0 other
              | inl same ↦
                  let here : i.0 ≡ bucket_of x.buckets row = sym s.bucket ∙ sym (same_bucket x.buckets row (row_at x.unit q) same) in
                  let no' = none q (subst (λ (b : ℕ). Contains (places_of x b) q) here i.2) stays in
                  cond-false (same_rows row (row_at x.unit q)) 1 0 no'
            ]
      ])

-- ---- what a drop leaves

module _ (x : Index) (has : HasChains x (places_of x)) (row : Row) (kept : ℕ → Bool) where
  pub less_none : times row (kept_of x kept) ≡ 0 → HasLess (row ∷ []) (kept_of x kept) (kept_of x kept)
  less_none none r = elim (cases_Bool (same_rows r row)) [
    | inr other ↦ let zeros : times r (row ∷ []) ≡ 0 = times_one r row ∙ cond-false (same_rows r row) 1 0 other in omega (arith, zeros)
    | inl same ↦ let zeros : times r (kept_of x kept) ≡ 0 = ap (λ (q : Row). times q (kept_of x kept)) (same_is r row same) ∙ none in omega (arith, zeros)
  ]

  pub less_one : (b p : ℕ) → b < x.buckets → Contains (places_of x b) p → row ≡ row_at x.unit p → (later : ℕ → Bool) → kept p ≡ true → later p ≡ false
      → ((q : ℕ) → (q ≡ p → ⊥) → later q ≡ kept q)
      → HasLess (row ∷ []) (kept_of x kept) (kept_of x later)
  less_one b p below c is later stays gone others r =
      let one : tally x.unit r p ≡ times r (row ∷ []) = ap (λ (q : Row). cond (same_rows r q) 1 0) (sym is) ∙ sym (times_one r row) in
      omega (arith, kept_less_one x has b p below c kept later stays gone others r, one)

pub less_before : (row : Row) (drops old mid new : List Row) → HasLess drops old mid → HasLess (row ∷ []) mid new → HasLess (row ∷ drops) old new
less_before row drops old mid new first second r = omega (arith, first r, second r, times-append r (row ∷ []) drops)

pub less_start : (old new : List Row) → ((r : Row) → times r new ≡ times r old) → HasLess [] old new
less_start old new same r = omega (arith, same r, times_none r)

-- rows are as often in a list that is turned round
pub times-reverse : (r : Row) (rows : List Row) → times r (reverse rows) ≡ times r rows
unfolding times
times-reverse r rows = sum_by-IsPermutation (λ (x : Row). cond (same_rows r x) 1 0) rows (reverse rows) (IsPermutation-reverse rows)

pub less_reversed : (drops old new : List Row) → HasLess drops old new → HasLess drops old (reverse new)
less_reversed drops old new less r = times-reverse r new ∙ less r
