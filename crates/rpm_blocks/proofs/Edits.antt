-- What putting a range in and taking one out leave of a rising list.
use Rattle.std.proofs.Common.{◌≡◌, ℕ, ◌+◌, ◌-◌, ◌<◌, ◌≤◌, List, length, inl, inr, sym, subst, arith}
use Rattle.rpm_blocks.proofs.Vocabulary.{AreApart, end_of_range, insert, IsFree, IsGap, IsPlace, IsRange, Range, range, range_at, remove}
use Rattle.std.proofs.lemmas.Bool.{cases_lt}
use Rattle.std.proofs.lemmas.List.Edits.{length-insert, get_or-insert_below, get_or-insert_at, get_or-insert_above, length-remove, get_or-remove_below, get_or-remove_above}

module _ (gap : ℕ) (l : List Range) (apart : AreApart gap l) where
  module _ (i : ℕ) (lt : i < length l) where
    below_removed : (k : ℕ) → k < i → range_at (remove l i) k ≡ range_at l k
    below_removed k below = get_or-remove_below l i (range 0 0) k below lt

    above_removed : (k : ℕ) → i ≤ k → range_at (remove l i) k ≡ range_at l (k + 1)
    above_removed k above = get_or-remove_above l i (range 0 0) k above lt

    pub apart_remove : AreApart gap (remove l i)
    apart_remove = record {
      apart = λ j k less in_range.
          let short = length-remove l i lt in
          grind (
            arith,
            below_removed j,
            below_removed k,
            above_removed j,
            above_removed k,
            apart.apart j k,
            apart.apart j (k + 1),
            apart.apart (j + 1) (k + 1),
          );
      ranges = λ k in_range.
          let short = length-remove l i lt in
          elim (cases_lt k i) [
            | inl below ↦ subst IsRange (sym (below_removed k below)) (apart.ranges k (omega arith))
            | inr above ↦ subst IsRange (sym (above_removed k above)) (apart.ranges (k + 1) (omega arith))
          ];
    }

    -- a part of what was taken out goes in its place
    pub gap_removed : (r : Range) → (range_at l i).start ≤ r.start → end_of_range r ≤ end_of_range (range_at l i) → IsGap gap gap (remove l i) r i
    gap_removed r from to =
        let short = length-remove l i lt in
        record {
          in_range = omega arith;
          below = λ k less. rw below_removed (omega (arith, apart.apart k i less lt));
          above = λ k more in_range. rw above_removed (omega (arith, apart.apart i (k + 1) (omega arith) (omega arith)));
        }

  module _ (at : ℕ) (r : Range) (goes : IsGap gap gap l r at) where
    below_inserted : (k : ℕ) → k < at → range_at (insert l at r) k ≡ range_at l k
    below_inserted k below = get_or-insert_below l at r (range 0 0) k below goes.in_range

    at_inserted : (k : ℕ) → k ≡ at → range_at (insert l at r) k ≡ r
    at_inserted k here = rw here (get_or-insert_at l at r (range 0 0) goes.in_range)

    above_inserted : (k : ℕ) → at < k → range_at (insert l at r) k ≡ range_at l (k - 1)
    above_inserted k above = subst (λ (q : ℕ). range_at (insert l at r) q ≡ range_at l (k - 1)) {x = k - 1 + 1} (omega arith)
        (get_or-insert_above l at r (range 0 0) (k - 1) (omega arith) goes.in_range)

    pub apart_insert : IsRange r → AreApart gap (insert l at r)
    apart_insert is_range = record {
      apart = λ j k less in_range.
          let long = length-insert l at r goes.in_range in
          grind (
            arith,
            below_inserted j,
            at_inserted j,
            above_inserted j,
            below_inserted k,
            at_inserted k,
            above_inserted k,
            apart.apart j k,
            apart.apart j (k - 1),
            apart.apart (j - 1) (k - 1),
            goes.below j,
            goes.above (k - 1),
          );
      ranges = λ k in_range.
          let long = length-insert l at r goes.in_range in
          elim (cases_lt k at) [
            | inl below ↦ subst IsRange (sym (below_inserted k below)) (apart.ranges k (omega arith))
            | inr from ↦ elim (cases_lt at k) [
              | inl above ↦ subst IsRange (sym (above_inserted k above)) (apart.ranges (k - 1) (omega arith))
              | inr here ↦ subst IsRange (sym (at_inserted k (omega arith))) is_range
            ]
          ];
    }

    -- a range below the one that was put in goes in the same place
    pub gap_inserted : (s : Range) → IsGap gap gap l s at → end_of_range s + gap ≤ r.start → IsGap gap gap (insert l at r) s at
    gap_inserted s fits below =
        let long = length-insert l at r goes.in_range in
        record {
          in_range = omega (arith, goes.in_range);
          below = λ k less. rw below_inserted (fits.below k less);
          above = λ k more in_range. grind (arith, at_inserted k, above_inserted k, fits.above (k - 1));
        }

-- a free range goes at the place of its first block
pub gap_of_place : (gap : ℕ) (l : List Range) → AreApart gap l → (r : Range) (at : ℕ) → IsRange r → IsPlace l r.start at → IsFree l r → IsGap 0 0 l r at
gap_of_place gap l apart r at is_range place free = record {
  in_range = place.in_range;
  below = λ i less. elim (cases_lt r.start (end_of_range (range_at l i))) [
    | inl meets ↦ absurd (free r.start (record { from = omega arith; below = omega (arith, is_range.filled) }) i (omega (arith, place.in_range))
        (record { from = omega (arith, place.below i less); below = meets }))
    | inr ends ↦ omega arith
  ];
  above = λ i more in_range. elim (cases_lt (range_at l i).start (end_of_range r)) [
    | inl meets ↦ absurd (free (range_at l i).start (record { from = place.above i more in_range; below = meets }) i in_range
        (record { from = omega arith; below = let filled = apart.ranges i in_range in omega (arith, filled.filled) }))
    | inr ends ↦ omega arith
  ];
}
