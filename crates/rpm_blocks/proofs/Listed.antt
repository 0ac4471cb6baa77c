-- The list with one more range, and with one less, as an edit at its place gives it.
use Rattle.std.proofs.Common.{◌≡◌, ◌≢◌, ℕ, zero, suc, ◌<◌, ◌≤◌, List, [], ◌∷◌, length, inl, inr, ap, refl, ◌∙◌, arith}
use Rattle.std.specs.Prelude.{SomeIndex}
use Rattle.rpm_blocks.proofs.Vocabulary.{AreApart, insert, IsFree, IsGap, IsPlace, IsRange, Range, range_at, remove, with_range, without}
use Rattle.std.proofs.lemmas.Bool.{cases_lt}
use Rattle.std.proofs.lemmas.Bool.Decides.{nat_tests}
use Rattle.rpm_blocks.proofs.Cuts.{free_of_gap}
use Rattle.rpm_blocks.proofs.Edits.{gap_of_place, gap_removed, apart_insert}

-- a range that is put in before those that begin above it, and after the others
pub insert_is_with_range : (l : List Range) (at : ℕ) (r : Range) → at ≤ length l → ((i : ℕ) → i < at → (range_at l i).start ≤ r.start)
    → ((i : ℕ) → at ≤ i → i < length l → r.start < (range_at l i).start) → insert l at r ≡ with_range r l
insert_is_with_range [] zero r in_range below above = refl
insert_is_with_range (x ∷ l) zero r in_range below above = grind (arith, nat_tests, above 0 (omega arith) (omega arith))
insert_is_with_range [] (suc at) r in_range below above = absurd (omega arith)
insert_is_with_range (x ∷ l) (suc at) r in_range below above =
    let rest = insert_is_with_range l at r (omega arith) (λ i less. below (suc i) (omega arith)) (λ i more lt. above (suc i) (omega arith) (omega arith)) in
    grind (arith, nat_tests, below 0 (omega arith), rest)

-- no range begins at the block
all_kept : (l : List Range) (start : ℕ) → ((i : ℕ) → i < length l → (range_at l i).start ≢ start) → l ≡ without start l
all_kept [] start others = refl
all_kept (x ∷ l) start others =
    let rest = all_kept l start (λ i lt. others (suc i) (omega arith)) in
    grind (arith, nat_tests, others 0 (omega arith), rest)

-- only the range at place i does
pub remove_is_without : (l : List Range) (i start : ℕ) → i < length l → (range_at l i).start ≡ start
    → ((j : ℕ) → j < length l → j ≢ i → (range_at l j).start ≢ start) → remove l i ≡ without start l
remove_is_without [] i start lt here others = absurd (omega arith)
remove_is_without (x ∷ l) zero start lt here others =
    let rest = all_kept l start (λ j less. others (suc j) (omega arith) (omega arith)) in
    grind (arith, nat_tests, here, rest)
remove_is_without (x ∷ l) (suc i) start lt here others =
    let rest = remove_is_without l i start (omega arith) here (λ j less differs. others (suc j) (omega arith) (omega arith)) in
    grind (arith, nat_tests, others 0 (omega arith) (omega arith), rest)

module _ (l : List Range) (apart : AreApart 0 l) (start at : ℕ) (place : IsPlace l start at) (begins : SomeIndex l (λ i. (range_at l i).start ≡ start)) where
  -- the range that begins at the block stands at its place
  pub found_in_range : at < length l
  found_in_range = elim (cases_lt begins.0 at) [
    | inl less ↦ absurd (omega (arith, place.below begins.0 less, begins.2))
    | inr more ↦ omega (arith, begins.1)
  ]

  pub found_here : (range_at l at).start ≡ start
  found_here = elim (cases_lt at begins.0) [
    | inl before ↦ let filled = apart.ranges at found_in_range in absurd (omega (
      arith,
      filled.filled,
      apart.apart at begins.0 before begins.1,
      place.above at (omega arith) found_in_range,
      begins.2,
    ))
    | inr from ↦ elim (cases_lt begins.0 at) [
      | inl less ↦ absurd (omega (arith, place.below begins.0 less, begins.2))
      | inr more ↦ let same : at ≡ begins.0 = omega arith in ap (λ k. (range_at l k).start) same ∙ begins.2
    ]
  ]

  -- and no other begins there
  pub found_alone : (j : ℕ) → j < length l → j ≢ at → (range_at l j).start ≢ start
  found_alone j lt differs same = elim (cases_lt j at) [
    | inl less ↦ omega (arith, place.below j less)
    | inr more ↦ let filled = apart.ranges at found_in_range in omega (arith, filled.filled, apart.apart at j (omega arith) lt, found_here)
  ]

  pub removed_is_without : remove l at ≡ without start l
  removed_is_without = remove_is_without l at start found_in_range found_here found_alone

  -- and what is left meets it nowhere
  pub removed_free : IsFree (remove l at) (range_at l at)
  removed_free = free_of_gap 0 0 (remove l at) (range_at l at) at (gap_removed 0 l apart at found_in_range (range_at l at) (omega arith) (omega arith))

module _ (l : List Range) (apart : AreApart 0 l) (r : Range) (at : ℕ) (is_range : IsRange r) (place : IsPlace l r.start at) (free : IsFree l r) where
  gap : IsGap 0 0 l r at
  gap = gap_of_place 0 l apart r at is_range place free

  -- a free range that is put in at its place keeps the list rising
  pub inserted_apart : AreApart 0 (insert l at r)
  inserted_apart = apart_insert 0 l apart at r gap is_range

  pub inserted_is_with_range : insert l at r ≡ with_range r l
  inserted_is_with_range = insert_is_with_range l at r place.in_range (λ i less. omega (arith, place.below i less))
      (λ i more lt. omega (arith, gap.above i more lt, is_range.filled))
