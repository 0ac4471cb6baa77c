-- Places in a rising list of ranges, and lists that have the same blocks.
use Rattle.std.specs.Prelude.{ℕ, ◌+◌, ◌<◌, ◌≤◌, List, length}
use Rattle.rpm_blocks.specs.declared.Range.{Range}
use Rattle.rpm_blocks.specs.Blocks.{range_at, end_of_range, IsUnused}

-- the ranges before place `at` begin below the block, and those from it on do not
pub record IsPlace (l : List Range) (block at : ℕ) : Type 0 where
  pub in_range : at ≤ length l
  pub below : (i : ℕ) → i < at → (range_at l i).start < block
  pub above : (i : ℕ) → at ≤ i → i < length l → block ≤ (range_at l i).start

-- a range goes at place `at`, with so many blocks between it and the ranges below, and above
pub record IsGap (low high : ℕ) (l : List Range) (r : Range) (at : ℕ) : Type 0 where
  pub in_range : at ≤ length l
  pub below : (i : ℕ) → i < at → end_of_range (range_at l i) + low ≤ r.start
  pub above : (i : ℕ) → at ≤ i → i < length l → end_of_range r + high ≤ (range_at l i).start

-- two lists of ranges have the same blocks
pub record HaveSameBlocks (l m : List Range) : Type 0 where
  pub there : (block : ℕ) → IsUnused l block → IsUnused m block
  pub back : (block : ℕ) → IsUnused m block → IsUnused l block
