-- The words of proofs, from one place.
pub use Rattle.rpm_blocks.specs.Blocks.{AreApart, block_limit, Blocks, end_of_range, Fits, Has, IsFree, IsLeastFit, IsRange, IsUnused, range}
pub use Rattle.rpm_blocks.specs.Blocks.{range_at, with_range}
pub use Rattle.rpm_blocks.specs.Blocks.{without}
pub use Rattle.rpm_blocks.specs.declared.Range.{Range}
pub use Rattle.rpm_blocks.specs.inner.Places.{HaveSameBlocks, IsGap, IsPlace}
pub use Rattle.std.specs.List.{insert, remove}
pub use Rattle.std.specs.List.Sorted.{IsNonDecreasingBy, IsPartitionPoint}
