-- The words of proofs, from one place.
unfoldable pub use Rattle.rpm_version.specs.Capability.{words}
pub use Rattle.rpm_version.specs.Evr.{evr, EvrParts, is_dash, IsLastDash}
unfoldable pub use Rattle.rpm_version.specs.Evr.{evr_order, release_order}
pub use Rattle.rpm_version.specs.Order.{IsUpTo, rank}
unfoldable pub use Rattle.rpm_version.specs.Order.{segment_order, version_order}
pub use Rattle.rpm_version.specs.Piece.{segment_at, segments_behind}
unfoldable pub use Rattle.rpm_version.specs.Range.{equal_but_release, is_open, overlaps, share_sense}
pub use Rattle.rpm_version.specs.Segment.{Caret, Digits, End, Letters, Segment, Tilde}
unfoldable pub use Rattle.rpm_version.specs.Segment.{runs, runs_on, segment_of, segments}
pub use Rattle.rpm_version.specs.inner.Cuts.{is_space, unless_empty}
unfoldable pub use Rattle.rpm_version.specs.inner.Cuts.{release_of, version_of}
pub use Rattle.rpm_version.specs.laws.Senses.{epoch_number, has_equal, has_greater, has_less, ranges_meet}
pub use Rattle.rpm_version.specs.declared.segment.Piece.{Piece}
pub use Rattle.std.specs.Char.{digit_value, is_ascii_alphabetic, is_ascii_digit}
pub use Rattle.std.specs.Cmp.{IsTotalOrder, nat_cmp_is}
pub use Rattle.std.specs.Cmp.Lexicographic.{slice_cmp}
pub use Rattle.std.specs.Int.{bit_at}
pub use Rattle.std.specs.List.{list_any, onto_first, position_or_len, prefix_len, slice_index, slice_split, suffix_len, take_while}
pub use Rattle.std.specs.Ordering.{is_eq, is_gt, is_ne, MatchOrdering, nat_cmp, on, ordering_reverse, ordering_then, then_cmp}
pub use Rattle.std.specs.Str.Parse.{AllDigits, digits_value, digits_value_after}
pub use Rattle.std.specs.declared.cmp.Ordering.{Ordering}
pub use Rattle.std.specs.declared.cmp.Ordering.TheVariants.{Equal, Greater, Less}
