-- Ranges of blocks that are used, and the least block at which one more fits.
use Rattle.std.specs.Prelude.{ℕ, ◌+◌, ◌<◌, ◌≤◌, List, [], ◌∷◌, length, filter, Option, Some, None, if◌then◌else◌}
use Rattle.std.specs.Prelude.{nat_lt, slice_index_or, ◌==◌, not}
use Rattle.rpm_blocks.specs.declared.Range.{Range}

-- no range ends past this block: a file has at most 4 GiB, in blocks of 16 bytes
abbrev pub block_limit : ℕ
block_limit = 268435456

-- what contracts see of a set: its ranges, and how many more it takes without asking for memory
pub record Blocks : Type 0 where
  pub ranges : List Range
  pub spare : ℕ

-- the range of so many blocks that begins at a block
abbrev pub range : ℕ → ℕ → Range
range start count = record { start = start; count = count }

-- the block after the last of a range
abbrev pub end_of_range : Range → ℕ
end_of_range r = r.start + r.count

-- a block lies in a range
pub record Has (r : Range) (block : ℕ) : Type 0 where
  pub from : r.start ≤ block
  pub below : block < end_of_range r

-- the range at place i
abbrev pub range_at : List Range → ℕ → Range
range_at l i = slice_index_or l i (range 0 0)

-- a block lies in no range of the list
abbrev pub IsUnused : List Range → ℕ → Type 0
IsUnused l block = (i : ℕ) → i < length l → ¬ Has (range_at l i) block

-- a range shares no block with any of the list
abbrev pub IsFree : List Range → Range → Type 0
IsFree l r = (block : ℕ) → Has r block → IsUnused l block

-- a range has a block at least, and none from the limit on
pub record IsRange (r : Range) : Type 0 where
  pub filled : 1 ≤ r.count
  pub bounded : end_of_range r ≤ block_limit

-- the ranges rise, and each begins at least so many blocks after the end of those before it:
-- with a gap of 0 no two share a block, and with a gap of 1 none touches the next
pub record AreApart (gap : ℕ) (l : List Range) : Type 0 where
  pub apart : (i j : ℕ) → i < j → j < length l → end_of_range (range_at l i) + gap ≤ (range_at l j).start
  pub ranges : (i : ℕ) → i < length l → IsRange (range_at l i)

-- a range of so many blocks from this block on is free, and ends by the limit
pub record Fits (l : List Range) (count block : ℕ) : Type 0 where
  pub free : IsFree l (range block count)
  pub ends : block + count ≤ block_limit

-- the least block from `from` on at which so many blocks fit, and None where there is none
abbrev pub IsLeastFit : List Range → ℕ → ℕ → Option ℕ → Type 0
IsLeastFit l count from None = (block : ℕ) → from ≤ block → ¬ Fits l count block
IsLeastFit l count from (Some least) =
    (from ≤ least) × Fits l count least × ((block : ℕ) → from ≤ block → block < least → ¬ Fits l count block)

-- the list with one more range, which stands before the first that begins above it
abbrev pub with_range : Range → List Range → List Range
with_range r [] = r ∷ []
with_range r (s ∷ rest) = if nat_lt r.start s.start then r ∷ s ∷ rest else s ∷ with_range r rest

-- the list without the range that begins at this block
abbrev pub without : ℕ → List Range → List Range
without start l = filter (λ r. not (r.start == start)) l
