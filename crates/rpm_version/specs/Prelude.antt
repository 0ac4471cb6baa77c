-- The words of clauses, from one place.
pub use Rattle.std.specs.Char.{is_ascii_alphabetic, is_ascii_digit}
pub use Rattle.std.specs.List.{position_or_len, prefix_len, take_while}
pub use Rattle.std.specs.Ordering.{nat_cmp, ordering_reverse}
pub use Rattle.std.specs.Str.Parse.{AllDigits, digits_value}
pub use Rattle.rpm_version.specs.Capability.{CapabilityParts, capability, sense, words}
pub use Rattle.rpm_version.specs.Evr.{EvrParts, HasDigits, IsLastDash, evr, evr_order, release_order}
pub use Rattle.rpm_version.specs.Order.{IsUpTo, rank, segment_order, version_order}
pub use Rattle.rpm_version.specs.Piece.{IsRun, segment_at, segments_behind}
pub use Rattle.rpm_version.specs.Range.{equal_but_release, is_open, overlaps, share_sense}
pub use Rattle.rpm_version.specs.Segment.{segments}
pub use Rattle.rpm_version.specs.inner.Cuts.{behind_epoch, epoch_of, is_space, release_of, unless_empty, version_of}
pub use Rattle.rpm_version.specs.laws.Senses.{ranges_meet}
