-- The words of proofs, from one place.
pub use Rattle.rpm_hindex.specs.Answers.{AddsHit, AsOften, ChainCosts, FindIs, has_key, hit_at, HitsAre, is_wanted, IsBefore, IsFaultOf, IsOutsideIndex}
pub use Rattle.rpm_hindex.specs.Answers.{row_of_hit, same_hit}
unfoldable pub use Rattle.rpm_hindex.specs.Answers.{times_hit}
pub use Rattle.rpm_hindex.specs.Costs.{chain_bytes, chains_bytes}
pub use Rattle.rpm_hindex.specs.Images.{IsSealed, SameSeal, SealedOrSame, VoidOrSame}
pub use Rattle.rpm_hindex.specs.Index.{bucket_of, follow, Index, index_in, is_link, key_at, length_at}
pub use Rattle.rpm_hindex.specs.laws.Parts.{behind_place, bucket_unit, is_placed, next_at, places_in}
pub use Rattle.rpm_hindex.specs.Index.{records, units_at}
pub use Rattle.rpm_hindex.specs.laws.Parts.{units_from}
unfoldable pub use Rattle.rpm_hindex.specs.Index.{all_places, chain, is_sound, places_of, row_at, rows_of}
pub use Rattle.rpm_hindex.specs.Padding.{AddsPadded, ArePadded, IsPadded, past_key, Remains}
pub use Rattle.rpm_hindex.specs.Plans.{file_after, after_tail, after_units, ArePatches, buckets_after, CanWrite, HasChanged, IsAfter, IsChanged, IsSizedFor}
pub use Rattle.rpm_hindex.specs.Plans.{LeavesOrder, patch_at, reach_with, ReachesFor, second_after, units_after, WritesPadded}
unfoldable pub use Rattle.rpm_hindex.specs.Plans.{IsPaddedPlan, IsPlanFor}
pub use Rattle.rpm_hindex.specs.Refusals.{DropsMore, HasUnitsFor, HoldsMore, IsBad, IsBadFor, IsFaulty, IsTooLargeFor}
pub use Rattle.rpm_hindex.specs.Rows.{no_row, Row, row_nth, same_row, SameRows}
pub use Rattle.rpm_hindex.specs.laws.Parts.{fnv}
unfoldable pub use Rattle.rpm_hindex.specs.Rows.{hash_of, times}
pub use Rattle.rpm_hindex.specs.Sizes.{doubled_buckets, first_record, key_units, units_for}
pub use Rattle.rpm_hindex.specs.laws.Parts.{index_units, record_units}
unfoldable pub use Rattle.rpm_hindex.specs.Sizes.{bucket_count, is_bucket_count, live_of}
pub use Rattle.rpm_hindex.specs.State.{buckets_of, EndsInZero, is_headed, KeepsIndexValue, seal_unit, sealed_generation, IndexState, opened_state}
pub use Rattle.rpm_hindex.specs.laws.Parts.{index_magic}
unfoldable pub use Rattle.rpm_hindex.specs.State.{is_current, is_in_order, is_ordered}
pub use Rattle.rpm_hindex.specs.Whole.{IsWellFormed, IsWhole}
pub use Rattle.rpm_hindex.specs.declared.chain.Extent.{Extent}
pub use Rattle.rpm_hindex.specs.declared.change.Change.{Change}
pub use Rattle.rpm_hindex.specs.declared.faults.FindFault.{FindFault}
pub use Rattle.rpm_hindex.specs.declared.faults.PrepareFault.{PrepareFault}
pub use Rattle.rpm_hindex.specs.declared.faults.PrepareFault.TheVariants.{BadIndex, DiskFault, IndexFull, NoMemory}
pub use Rattle.rpm_hindex.specs.declared.heads.Ahead.{Ahead}
pub use Rattle.rpm_hindex.specs.declared.heads.Head.{Head}
pub use Rattle.rpm_hindex.specs.declared.heads.Met.{Met}
pub use Rattle.rpm_hindex.specs.declared.hits.Hit.{Hit}
pub use Rattle.rpm_hindex.specs.declared.plan.Patch.{Patch}
pub use Rattle.rpm_hindex.specs.declared.plan.Patches.{Patches}
pub use Rattle.rpm_hindex.specs.declared.plan.Work.{Work}
pub use Rattle.rpm_hindex.specs.declared.plan.Work.TheVariants.{InPlace, Scratch}
pub use Rattle.rpm_hindex.specs.declared.row_search.Start.{Start}
pub use Rattle.rpm_hindex.specs.declared.piece.PackedHead.{PackedHead}
pub use Rattle.rpm_hindex.specs.declared.spots.Spot.{Spot}
pub use Rattle.rpm_hindex.specs.inner.Changes.{AddsRows, CanGo, index_after, CountsLess, DropOfOne, HasFault, HasGone, HasLess, HasNoFault, HasWord, if_kept}
pub use Rattle.rpm_hindex.specs.inner.Changes.{index_with, is_kept, IsBadSoFar, IsBehind, IsChainFault, IsWithoutDropped, IsFreshChange, IsHonest}
pub use Rattle.rpm_hindex.specs.inner.Changes.{IsOther, IsScratchOf}
pub use Rattle.rpm_hindex.specs.inner.Changes.{IsShort, IsStarted, IsTooLarge, IsWorkOf, kept_below, kept_in, kept_of, patch_of, Puts}
pub use Rattle.rpm_hindex.specs.inner.Changes.{PutsWithin, SetsBucket, SetsNext, Stays, unit_after, Unlinks}
pub use Rattle.rpm_hindex.specs.inner.Drafts.{draft_index, HasDraftUnits, IsDraft, IsDraftOf, IsIndexMade}
pub use Rattle.rpm_hindex.specs.inner.Making.{key_padding}
unfoldable pub use Rattle.rpm_hindex.specs.inner.Making.{record_of}
pub use Rattle.rpm_hindex.specs.inner.Ongoing.{IsDropFault}
pub use Rattle.rpm_hindex.specs.inner.Packed.{AreKeysPacked, ArePieces, rows_in_pieces, left_rows, head_kind, head_length, no_head, row_in, packed_rows}
pub use Rattle.rpm_hindex.specs.inner.Records.{HasBuckets}
pub use Rattle.rpm_hindex.proofs.laws.RowLaws.{live-append, once, same_is, times-append, times-cons, times_none, times_one, without}
pub use Rattle.rpm_hindex.specs.inner.Spots.{HasNone, IsRecordAhead, IsRowFound, IsFoundFrom, IsFront, IsRecordHead, IsHeadWithin, IsLastPlace}
pub use Rattle.rpm_hindex.specs.inner.Spots.{IsLinked, IsMet, IsMissing}
pub use Rattle.rpm_hindex.specs.inner.Spots.{IsNextUnit, IsPath, IsSoundSpot, IsSpot, IsWithin, OnWay, PathCosts, SkipsTo}
pub use Rattle.rpm_hindex.specs.inner.Starts.{AreStarts, IsStart, StandsWithin, StandWithin}
pub use Rattle.rpm_outside.specs.Changes.{IsSame}
pub use Rattle.rpm_outside.specs.Crash.{Torn}
pub use Rattle.rpm_outside.specs.Files.{bytes_of, cut_up, Files, with_units, unit_at, Units, units_of}
unfoldable pub use Rattle.rpm_outside.specs.Files.{blank}
pub use Rattle.rpm_outside.specs.Frame.{Changes}
pub use Rattle.rpm_outside.specs.Looks.{OnlyReads, OnlyReadsFile}
pub use Rattle.rpm_outside.specs.Words.{unit_of_words}
unfoldable pub use Rattle.rpm_outside.specs.Words.{bytes_of_word, word}
pub use Rattle.rpm_outside.specs.declared.disk.File.TheVariants.{Idx}
pub use Rattle.rpm_outside.proofs.laws.Changing.{changes_between, changes_none, changes_sync, changes_then, changes_weaker, changes_write}
pub use Rattle.rpm_outside.proofs.laws.Cuts.{bytes_of-cut_up, cut_up_one, length-cut_up, unit_at-cut_up}
pub use Rattle.rpm_outside.proofs.laws.Looking.{looks_at_from, looks_at_none, looks_at_then, looks_more, looks_none, looks_then}
pub use Rattle.rpm_outside.proofs.laws.PutLaws.{same_units}
pub use Rattle.rpm_outside.specs.laws.Puts.{length-put, put_after, put_before, put_inside}
pub use Rattle.rpm_outside.proofs.laws.UnitLaws.{length-unit, word_0, word_1, word_2, word_3}
pub use Rattle.std.specs.BTreeMap.{get, is_at, keys}
pub use Rattle.std.specs.BTreeSet.{BTreeSet, contains}
pub use Rattle.std.specs.Int.{from_le_bytes, w32}
pub use Rattle.std.specs.List.{All, Contains, filter, flat_map, list_all, list_any, range_with_len, sum_by}
pub use Rattle.std.specs.List.Sorted.{IsStrictlySortedBy}
pub use Rattle.std.specs.Map.{lookup}
pub use Rattle.std.specs.Option.{option_or}
pub use Rattle.std.specs.Ordering.{is_gt, is_lt, nat_cmp, ordering_then}
pub use Rattle.std.specs.Str.{bytes_eq}
pub use Rattle.std.specs.declared.alloc.Global.{Global}
pub use Rattle.std.specs.declared.cmp.Ordering.{Ordering}
pub use Rattle.std.specs.declared.cmp.Ordering.TheVariants.{Equal, Greater, Less}
