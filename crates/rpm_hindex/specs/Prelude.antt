-- The words of clauses, from one place.
pub use Rattle.std.specs.BTreeMap.{get, keys}
pub use Rattle.std.specs.BTreeSet.{contains}
pub use Rattle.std.specs.List.{filter, flat_map}
pub use Rattle.std.specs.List.Sorted.{IsStrictlySortedBy}
pub use Rattle.std.specs.Ordering.{nat_cmp}
pub use Rattle.rpm_outside.specs.Changes.{IsSame}
pub use Rattle.rpm_outside.specs.Crash.{Torn}
pub use Rattle.rpm_outside.specs.Files.{Units, blank, bytes_of, with_units, unit_at, units_of}
pub use Rattle.rpm_outside.specs.Frame.{IsDurable, ReadsOnly, ReadsAtOr, ReadsOr, Writes, WritesOr}
pub use Rattle.rpm_outside.specs.Words.{bytes_of_word, unit_of_words, word}
pub use Rattle.rpm_outside.specs.declared.disk.File.{File}
pub use Rattle.rpm_outside.specs.declared.disk.File.TheVariants.{Idx}
pub use Rattle.rpm_hindex.specs.Answers.{AddsHit, AreHits, AsOften, ChainCosts, FindIs, IsFaultOf, IsOutsideIndex}
pub use Rattle.rpm_hindex.specs.Answers.{IsRising, has_key, hit_at, is_wanted, times_hit}
pub use Rattle.rpm_hindex.specs.Costs.{StaysInPlace, StaysWithin, chains_bytes}
pub use Rattle.rpm_hindex.specs.Images.{IsSealed, IsDurableAs, SameSeal, SealedOrSame, VoidOrSame, VoidOrSameSeal}
pub use Rattle.rpm_hindex.specs.Index.{Index, chain, follow, index_in, is_link, is_sound}
pub use Rattle.rpm_hindex.specs.laws.Parts.{bucket_unit, is_placed}
pub use Rattle.rpm_hindex.specs.Index.{length_at, records, row_at, units_at}
pub use Rattle.rpm_hindex.specs.laws.Parts.{units_from}
pub use Rattle.rpm_hindex.specs.Padding.{AddsPadded, ArePadded}
pub use Rattle.rpm_hindex.specs.Plans.{ArePatches, CanWrite, IsAfter, IsChanged, IsPaddedPlan, IsPlanFor, LeavesOrder}
pub use Rattle.rpm_hindex.specs.Plans.{WritesPadded, file_after, after_tail, after_units, buckets_after, patch_at}
pub use Rattle.rpm_hindex.specs.Prepared.{IsPrepared, IsUnprepared}
pub use Rattle.rpm_hindex.specs.Refusals.{HasUnitsFor, IsBad, IsBadFor, IsFaulty}
pub use Rattle.rpm_hindex.specs.Rewrites.{IsIndexFull, IsRebuildRefused, IsRebuiltIndex}
pub use Rattle.rpm_hindex.specs.Rows.{Row, SameRows, hash_of, row_nth}
pub use Rattle.rpm_hindex.specs.laws.Parts.{fnv}
pub use Rattle.rpm_hindex.specs.Sizes.{bucket_count, first_record, is_bucket_count, live_of}
pub use Rattle.rpm_hindex.specs.laws.Parts.{index_units}
pub use Rattle.rpm_hindex.specs.Sizes.{units_for}
pub use Rattle.rpm_hindex.specs.laws.Parts.{record_units}
pub use Rattle.rpm_hindex.specs.State.{KeepsIndexValue, IndexState, buckets_of, is_current, is_headed, is_in_order}
pub use Rattle.rpm_hindex.specs.State.{is_ordered}
pub use Rattle.rpm_hindex.specs.State.{seal_unit, opened_state}
pub use Rattle.rpm_hindex.specs.Whole.{IsWellFormed}
pub use Rattle.rpm_hindex.specs.inner.Changes.{IsUnchanged, CanBegin, CanGo, DropOfOne, HasFault, HasNoFault, HasWord}
pub use Rattle.rpm_hindex.specs.inner.Changes.{IsChainFault, IsFreshChange}
pub use Rattle.rpm_hindex.specs.inner.Changes.{IsHonest, IsOther, IsScratchOf, IsStarted, IsTooLarge}
pub use Rattle.rpm_hindex.specs.inner.Changes.{IsWorkOf, Puts, PutsWithin, SetsNext, Unlinks}
pub use Rattle.rpm_hindex.specs.inner.Changes.{is_kept, kept_in, kept_of, patch_of, unit_after}
pub use Rattle.rpm_hindex.specs.inner.Drafts.{IsDraft, IsDraftOf}
pub use Rattle.rpm_hindex.specs.inner.Finds.{FindsFrom, FindsRow}
pub use Rattle.rpm_hindex.specs.inner.Making.{key_padding, record_of}
pub use Rattle.rpm_hindex.specs.inner.Ongoing.{CanStart, DropsRows, IsOngoing, Grows, HasAdded, IsDropFault}
pub use Rattle.rpm_hindex.specs.inner.Ongoing.{LeavesWhole}
pub use Rattle.rpm_hindex.specs.inner.Ongoing.{index_of_change, one_row, row_with}
pub use Rattle.rpm_hindex.specs.inner.Records.{CanRead, HasBuckets, ReadsChain, ReadsPath, index_at}
pub use Rattle.rpm_hindex.specs.inner.Spots.{FallsTo, IsRecordAhead, IsRecordHead, IsHeadWithin}
pub use Rattle.rpm_hindex.specs.inner.Spots.{IsMet, IsNextUnit, IsPath, OnWay, PathCosts, SkipsTo}
pub use Rattle.rpm_hindex.specs.inner.Starts.{IsStart, StandWithin, StandsWithin}
