-- What a search finds among rising ranges, and what joining and cutting leave of runs.
use Rattle.std.proofs.Common.{◌≡◌, ℕ, zero, suc, ◌+◌, ◌<◌, ◌≤◌, List, [], ◌∷◌, length, ap, refl, sym, ◌∙◌, inl, inr, true, false, ltb, slice_index_or, set, arith}
use Rattle.rpm_blocks.proofs.Vocabulary.{AreApart, block_limit, end_of_range, HaveSameBlocks, insert, IsGap, IsNonDecreasingBy, IsPartitionPoint, IsPlace, IsRange}
use Rattle.rpm_blocks.proofs.Vocabulary.{Range, range, range_at, remove}
use Rattle.std.proofs.lemmas.Bool.{cases_lt}
use Rattle.std.proofs.lemmas.Bool.Decides.{nat_tests}
use Rattle.std.proofs.lemmas.List.Sorted.{IsNonDecreasingBy-from_default}
use Rattle.std.proofs.lemmas.List.{get_or_default}
use Rattle.std.proofs.lemmas.List.Edits.{length-remove, get_or-remove_below, get_or-remove_above}
use Rattle.rpm_blocks.proofs.Same.{same_trans, same_cons, same_swap, same_joined, same_remove, same_insert}
use Rattle.rpm_blocks.proofs.Edits.{apart_remove, apart_insert}

-- the first blocks rise, as a search by halves asks
pub starts_rise : (l : List Range) → AreApart 0 l → IsNonDecreasingBy (λ r. r.start) l
starts_rise l apart = IsNonDecreasingBy-from_default (λ r. r.start) l (range 0 0) (λ i j le in_range.
    grind (arith, apart.apart i j, λ (same : i ≡ j). ap (λ k. (range_at l k).start) same))

-- and where it ends is the place of the block
pub place_of_point : (l : List Range) (block at : ℕ) → at ≤ length l → IsPartitionPoint (λ r. ltb r.start block ≡ true)
    (λ r. ltb r.start block ≡ false) l at → IsPlace l block at
place_of_point l block at in_range point = record {
  in_range = in_range;
  below = λ i less. let passes = point.0 i (range 0 0) (omega arith) less in grind (arith, nat_tests);
  above = λ i more inside. let fails = point.1 i (range 0 0) more inside in grind (arith, nat_tests);
}

-- the range that was read at a place is that of the list
pub read_at : (l : List Range) (i : ℕ) (x : Range) → i < length l → x ≡ slice_index_or l i x → x ≡ range_at l i
read_at l i x lt is = grind (arith, get_or_default l i x (range 0 0) lt)

module _ (l : List Range) (apart : AreApart 1 l) (i : ℕ) (lt : i < length l) (x : Range) (is : x ≡ range_at l i) (r whole : Range) where
  -- the run below that touches a range is one with it
  pub joined_below : x.start ≡ whole.start → end_of_range x ≡ r.start → end_of_range r ≡ end_of_range whole → HaveSameBlocks (r ∷ l) (whole ∷ remove l i)
  joined_below starts touch ends =
      let m = remove l i in
      let taken = same_cons r l (x ∷ m) (same_remove l i x lt is) in
      same_trans (r ∷ l) (r ∷ x ∷ m) (whole ∷ m) taken (same_trans (r ∷ x ∷ m) (x ∷ r ∷ m) (whole ∷ m) (same_swap r x m)
      (same_joined x r whole m starts touch ends))

  -- and so is the run above
  pub joined_above : r.start ≡ whole.start → end_of_range r ≡ x.start → end_of_range x ≡ end_of_range whole → HaveSameBlocks (r ∷ l) (whole ∷ remove l i)
  joined_above starts touch ends =
      let m = remove l i in
      let taken = same_cons r l (x ∷ m) (same_remove l i x lt is) in
      same_trans (r ∷ l) (r ∷ x ∷ m) (whole ∷ m) taken (same_joined r x whole m starts touch ends)

  -- one range with the run below it goes in the place of that run
  pub gap_joined_below : IsGap 0 0 l r (i + 1) → x.start ≡ whole.start → end_of_range r ≡ end_of_range whole → IsGap 1 0 (remove l i) whole i
  gap_joined_below gap starts ends =
      let short = length-remove l i lt in
      let begins : (range_at l i).start ≡ whole.start = rw (← is) starts in
      record {
        in_range = omega arith;
        below = λ k less. rw get_or-remove_below (omega (arith, apart.apart k i less lt));
        above = λ k more in_range. rw get_or-remove_above (omega (arith, gap.above (k + 1) (omega arith) (omega arith)));
      }

-- a range that is set at a place is put in where the old one was taken out
set_is_insert : (l : List Range) (i : ℕ) (w : Range) → i < length l → set l i w ≡ insert (remove l i) i w
set_is_insert [] i w lt = absurd (omega arith)
set_is_insert (x ∷ l) zero w lt = refl
set_is_insert (x ∷ l) (suc i) w lt = ap (λ (m : List Range). x ∷ m) (set_is_insert l i w (omega arith))

-- the last run goes on to the end of a range that touches it
module _ (l : List Range) (apart : AreApart 1 l) (i : ℕ) (last : i + 1 ≡ length l) (x : Range) (is : x ≡ range_at l i) (r whole : Range)
    (starts : x.start ≡ whole.start) (touch : end_of_range x ≡ r.start) (ends : end_of_range r ≡ end_of_range whole) (some : 1 ≤ r.count) where
  lt : i < length l
  lt = omega arith

  gap : IsGap 1 1 (remove l i) whole i
  gap =
      let begins : range_at l i ≡ x = sym is in
      let goes : IsGap 0 0 l r (i + 1) = record {
        in_range = omega arith;
        below = λ k less. elim (cases_lt k i) [
          | inl before ↦ (let e : (range_at l i).start ≡ x.start = ap (λ (y : Range). y.start) begins in omega (arith, apart.apart k i before lt, e))
          | inr here ↦ (let e : range_at l k ≡ x = ap (range_at l) (omega arith) ∙ begins in rw e (omega (arith, touch)))
        ];
        above = λ k more inside. absurd (omega arith);
      } in
      let found = gap_joined_below l apart i lt x is r whole goes starts ends in
      let short = length-remove l i lt in
      record { in_range = found.in_range; below = found.below; above = λ k more inside. absurd (omega arith) }

  pub extended_apart : end_of_range r ≤ block_limit → AreApart 1 (set l i whole)
  extended_apart bounded =
      let is_range : IsRange whole = record { filled = omega (arith, starts, touch, ends); bounded = omega (arith, ends) } in
      rw (set_is_insert l i whole lt) (apart_insert 1 (remove l i) (apart_remove 1 l apart i lt) i whole gap is_range)

  pub extended_same : HaveSameBlocks (r ∷ l) (set l i whole)
  extended_same =
      let joined = joined_below l apart i lt x is r whole starts touch ends in
      rw (set_is_insert l i whole lt) (same_trans (r ∷ l) (whole ∷ remove l i) (insert (remove l i) i whole) joined (same_insert (remove l i) i whole))
