-- What taking the blocks of a range out of the runs leaves.
use Rattle.std.proofs.Common.{◌≡◌, ℕ, ◌+◌, ◌-◌, ◌<◌, ◌≤◌, List, ◌∷◌, length, inl, inr, refl, arith}
use Rattle.std.proofs.lemmas.Bool.{cases_lt}
use Rattle.rpm_blocks.proofs.Vocabulary.{AreApart, end_of_range, Has, HaveSameBlocks, IsFree, IsGap, IsPlace, IsRange, IsUnused, Range, range, range_at}
use Rattle.rpm_blocks.proofs.Same.{same_sym, same_trans, same_cons, same_swap, same_joined, unused_cons}

-- a range that has a place of its own meets no other
pub free_of_gap : (low high : ℕ) (l : List Range) (r : Range) (at : ℕ) → IsGap low high l r at → IsFree l r
free_of_gap low high l r at gap b has i lt meets = elim (cases_lt i at) [
  | inl less ↦ omega (arith, gap.below i less, has.from, meets.below)
  | inr more ↦ omega (arith, gap.above i more lt, has.below, meets.from)
]

-- and each part of it goes in that place too
pub gap_within : (low high : ℕ) (l : List Range) (x r : Range) (at : ℕ) → IsGap low high l x at → x.start ≤ r.start → end_of_range r ≤ end_of_range x
    → IsGap low high l r at
gap_within low high l x r at gap starts ends = record {
  in_range = gap.in_range;
  below = λ i less. omega (arith, gap.below i less);
  above = λ i more lt. omega (arith, gap.above i more lt);
}

module _ (l : List Range) (apart : AreApart 1 l) (r : Range) (is_range : IsRange r) (used : (b : ℕ) → Has r b → ¬ IsUnused l b) (at : ℕ)
    (place : IsPlace l (r.start + 1) at) where
  -- some run begins at the range or below
  pub begins : 1 ≤ at
  begins = elim (cases_lt 0 at) [
    | inl some ↦ omega arith
    | inr none ↦ absurd (used r.start (record { from = omega arith; below = omega (arith, is_range.filled) })
        (λ i lt has. omega (arith, place.above i (omega arith) lt, has.from)))
  ]

  -- the last of them
  abbrev pub run : Range
  run = range_at l (at - 1)

  pub run_in_range : at - 1 < length l
  run_in_range = omega (arith, begins, place.in_range)

  unused_behind : (b : ℕ) → end_of_range run ≤ b → ((k : ℕ) → at ≤ k → k < length l → b < (range_at l k).start) → IsUnused l b
  unused_behind b behind before k lt has = elim (cases_lt k at) [
    | inr more ↦ omega (arith, before k more lt, has.from)
    | inl less ↦ elim (cases_lt k (at - 1)) [
      | inl earlier ↦ omega (arith, apart.apart k (at - 1) earlier run_in_range, has.below)
      | inr later ↦ let here : k ≡ at - 1 = omega arith in let ends = has.below in let same : end_of_range (range_at l k) ≡ end_of_range run = rw here refl in
          omega (arith, ends)
    ]
  ]

  -- has the whole range, since no two runs touch
  pub run_ends : end_of_range r ≤ end_of_range run
  run_ends = elim (cases_lt (end_of_range run) (end_of_range r)) [
    | inr contains ↦ contains
    | inl short ↦ elim (cases_lt r.start (end_of_range run)) [
      | inl reaches ↦ absurd (used (end_of_range run) (record { from = omega arith; below = short }) (unused_behind (end_of_range run) (omega arith)
          (λ k more lt. omega (arith, apart.apart (at - 1) k (omega (arith, begins)) lt))))
      | inr misses ↦ absurd (used r.start (record { from = omega arith; below = omega (arith, is_range.filled) })
          (unused_behind r.start misses (λ k more lt. omega (arith, place.above k more lt))))
    ]
  ]

module _ (x r above below : Range) (low : below.start ≡ x.start) (touch : end_of_range below ≡ r.start) (rest : end_of_range r ≡ above.start)
    (high : end_of_range above ≡ end_of_range x) (l m m2 m3 : List Range) (taken : HaveSameBlocks l (x ∷ m)) (first : HaveSameBlocks (above ∷ m) m2)
    (second : HaveSameBlocks (below ∷ m2) m3) where
  parts : HaveSameBlocks (below ∷ r ∷ above ∷ m) (x ∷ m)
  parts =
      let tail = range r.start (r.count + above.count) in
      let upper = same_joined r above tail m refl rest (omega (arith, rest)) in
      same_trans (below ∷ r ∷ above ∷ m) (below ∷ tail ∷ m) (x ∷ m) (same_cons below (r ∷ above ∷ m) (tail ∷ m) upper)
      (same_joined below tail x m low touch (omega (arith, rest, high)))

  -- the parts beside the range have the other blocks of the run
  pub same_cut : HaveSameBlocks l (r ∷ m3)
  same_cut =
      let both = same_trans (below ∷ above ∷ m) (below ∷ m2) m3 (same_cons below (above ∷ m) m2 first) second in
      let out = same_trans (r ∷ below ∷ above ∷ m) (below ∷ r ∷ above ∷ m) (x ∷ m) (same_swap r below (above ∷ m)) parts in
      let back = same_trans (r ∷ m3) (r ∷ below ∷ above ∷ m) (x ∷ m) (same_sym (r ∷ below ∷ above ∷ m) (r ∷ m3)
      (same_cons r (below ∷ above ∷ m) m3 both)) out in
      same_trans l (x ∷ m) (r ∷ m3) taken (same_sym (r ∷ m3) (x ∷ m) back)

  -- and none of its own
  pub free_cut : IsFree m r → IsFree m3 r
  free_cut free b has =
      second.there b (unused_cons below m2 b (λ in_below. omega (arith, in_below.below, has.from, touch))
      (first.there b (unused_cons above m b (λ in_above. omega (arith, in_above.from, has.below, rest)) (free b has))))
