-- The walk over the runs to the least place, and what it says of the ranges.
use Rattle.std.proofs.Common.{◌≡◌, ℕ, ◌+◌, ◌-◌, ◌<◌, ◌≤◌, max, List, length, length-drop, drop, Option, Some, None, inl, inr, sym, subst, refl, arith}
use Rattle.std.proofs.lemmas.List.{get_or-drop}
use Rattle.std.proofs.lemmas.Bool.{cases_lt}
use Rattle.rpm_blocks.proofs.Vocabulary.{AreApart, block_limit, end_of_range, Fits, Has, HaveSameBlocks, IsLeastFit, IsPlace, IsUnused, Range, range, range_at}

-- the walk has passed the first k runs: none of them reaches past the block, and nothing fits below it
pub record HasPassed (l : List Range) (count from k block : ℕ) : Type 0 where
  pub in_range : k ≤ length l
  pub at_least : from ≤ block
  pub ended : (i : ℕ) → i < k → end_of_range (range_at l i) ≤ block
  pub none : (b : ℕ) → from ≤ b → b < block → ¬ Fits l count b

module _ (l : List Range) (apart : AreApart 1 l) (count from k block : ℕ) (passed : HasPassed l count from k block) where
  -- past a gap that is not wide enough
  pub passed_more : 1 ≤ count → k < length l → (block + count ≤ (range_at l k).start → ⊥)
      → HasPassed l count from (k + 1) (max block (end_of_range (range_at l k)))
  passed_more some lt narrow =
      let here = apart.ranges k lt in
      record {
        in_range = omega arith;
        at_least = omega (arith, passed.at_least);
        ended = λ i less. elim (cases_lt i k) [
          | inl before ↦ omega (arith, passed.ended i before)
          | inr same ↦ let is : i ≡ k = omega arith in let ends : end_of_range (range_at l i) ≡ end_of_range (range_at l k) = rw is refl in omega arith
        ];
        none = λ b more less fits. elim (cases_lt b block) [
          | inl before ↦ passed.none b more before fits
          | inr behind ↦ elim (cases_lt b (range_at l k).start) [
            | inl below ↦ fits.free (range_at l k).start (record { from = omega arith; below = omega arith }) k lt
                (record { from = omega arith; below = omega (arith, here.filled) })
            | inr inside ↦ fits.free b (record { from = omega arith; below = omega arith }) k lt (record { from = inside; below = omega arith })
          ]
        ];
      }

  -- after the last run only the limit ends a place
  pub none_fits : k ≡ length l → (block + count ≤ block_limit → ⊥) → IsLeastFit l count from None
  none_fits all over b more fits = elim (cases_lt b block) [
    | inl before ↦ passed.none b more before fits
    | inr behind ↦ over (omega (arith, fits.ends))
  ]

-- lists that have the same blocks from `from` on have the same places
pub least_same : (l m : List Range) (count from : ℕ) → ((b : ℕ) → from ≤ b → IsUnused l b → IsUnused m b)
    → ((b : ℕ) → from ≤ b → IsUnused m b → IsUnused l b) → (place : Option ℕ) → IsLeastFit l count from place → IsLeastFit m count from place
least_same l m count from there back None none = λ b more fits. none b more
    (record { free = λ c has. back c (omega (arith, has.from)) (fits.free c has); ends = fits.ends })
least_same l m count from there back (Some place) (least, fits, none) = (
  least,
  record { free = λ c has. there c (omega (arith, has.from)) (fits.free c has); ends = fits.ends },
  λ b more less other. none b more less (record { free = λ c has. back c (omega (arith, has.from)) (other.free c has); ends = other.ends }),
)

module _ (l m : List Range) (same : HaveSameBlocks l m) (apart : AreApart 1 m) (count from at : ℕ) (place : IsPlace m from at) where
  skipped : (i : ℕ) → i < at - 1 → end_of_range (range_at m i) ≤ from
  skipped i less = omega (arith, apart.apart i (at - 1) less (omega (arith, place.in_range)), place.below (at - 1) (omega arith))

  -- the runs before the last that begins below `from` end below it, so the search may leave them out
  pub least_from : (result : Option ℕ) → IsLeastFit (drop (at - 1) m) count from result → IsLeastFit l count from result
  least_from result least = least_same (drop (at - 1) m) l count from
      (λ b more unused. same.back b (λ i lt has. elim (cases_lt i (at - 1)) [
        | inl before ↦ omega (arith, skipped i before, has.below)
        | inr later ↦
            let on : at - 1 + (i - (at - 1)) ≡ i = omega arith in
            let read = get_or-drop (at - 1) m (i - (at - 1)) (range 0 0) in
            unused (i - (at - 1)) (omega (arith, length-drop (at - 1) m)) (rw read (subst (λ (k : ℕ). Has (range_at m k) b) (sym on) has))
      ]))
      (λ b more unused i lt has. same.there b unused (at - 1 + i) (omega (arith, length-drop (at - 1) m)) (rw (← get_or-drop (at - 1) m i (range 0 0)) has))
      result least
