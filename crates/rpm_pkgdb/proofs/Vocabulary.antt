-- The words of proofs, from one place.
pub use Rattle.rpm_blocks.specs.Blocks.{Blocks, IsFree, IsLeastFit, range, range_at, with_range, without}
pub use Rattle.rpm_blocks.proofs.laws.Laws.{apart_from_free, begins_in, free_from_apart, with_range_here, with_range_keeps, with_range_only, without_keeps}
pub use Rattle.rpm_blocks.proofs.laws.Laws.{without_only}
pub use Rattle.rpm_blocks.specs.declared.Range.{Range}
pub use Rattle.rpm_outside.specs.Causes.{Rose}
pub use Rattle.rpm_outside.specs.Changes.{IsSame, IsDurable, IsTornOnly}
pub use Rattle.rpm_outside.specs.Crash.{Torn}
pub use Rattle.rpm_outside.specs.Leaves.{CrashLeavesOnly}
pub use Rattle.rpm_outside.specs.Files.{bytes_of, cut_up, Files, with_units, unit_at, Units, units_of}
unfoldable pub use Rattle.rpm_outside.specs.Files.{blank}
pub use Rattle.rpm_outside.specs.Frame.{images, ReadsOnly, ReadsOr, Writes}
unfoldable pub use Rattle.rpm_outside.specs.Words.{bytes_of_word}
pub use Rattle.rpm_outside.specs.declared.disk.File.TheVariants.{Pkg}
pub use Rattle.rpm_outside.specs.declared.failed.Failed.{Failed}
pub use Rattle.rpm_outside.proofs.laws.Changing.{changes_sync, changes_write}
pub use Rattle.rpm_outside.proofs.laws.Cuts.{bytes_of-cut_up, cut_up_one, length-cut_up, unit_at-cut_up}
pub use Rattle.rpm_outside.proofs.laws.Looking.{looks_more, looks_none, read_same}
pub use Rattle.rpm_outside.proofs.laws.Moments.{started}
pub use Rattle.rpm_outside.proofs.laws.PutLaws.{same_units}
pub use Rattle.rpm_outside.specs.laws.Puts.{length-put, put_after, put_before, put_inside}
pub use Rattle.rpm_outside.proofs.laws.UnitLaws.{word_0, word_1, word_2, word_3}
pub use Rattle.rpm_pkgdb.specs.Answers.{AnswerIs, frame_in, given_bytes, given_blob}
pub use Rattle.rpm_pkgdb.proofs.laws.BlobLaws.{get-blobs, get-blobs-frames}
pub use Rattle.rpm_pkgdb.specs.Blobs.{blob_in, blocks_at, blocks_for, Frame, frame_of, frames, is_framed, tail}
unfoldable pub use Rattle.rpm_pkgdb.specs.Blobs.{blobs, is_head, is_tail}
unfoldable pub use Rattle.rpm_pkgdb.specs.Checksums.{adler, checksum_holds, sums}
pub use Rattle.rpm_pkgdb.specs.Costs.{opening_cost}
pub use Rattle.rpm_pkgdb.specs.laws.Parts.{head_cost}
pub use Rattle.rpm_pkgdb.specs.Damages.{damage_at, slot_fault, used_reason}
pub use Rattle.rpm_pkgdb.proofs.laws.Runs.{first_from}
unfoldable pub use Rattle.rpm_pkgdb.specs.Damages.{head_reason, own_reason, shared_reason, slot_units, table_fault}
unfoldable pub use Rattle.rpm_pkgdb.proofs.laws.Runs.{damage_of_slot}
pub use Rattle.rpm_pkgdb.specs.Frame.{IsWritten, pkg, Quiet, CrashLeavesFile}
pub use Rattle.rpm_pkgdb.specs.Framing.{framed_blob, next_unit, padding, summed_bytes}
unfoldable pub use Rattle.rpm_pkgdb.specs.Framing.{head_of, tail_of}
pub use Rattle.rpm_pkgdb.specs.Freed.{AreFreed, HasBlock, KeepsBlank}
pub use Rattle.rpm_pkgdb.specs.Growing.{after_move, after_moves, AreBehind, AreMoves, CanAdd, grown, IsNextMove, moving_cost, NeedsPage, next_end}
pub use Rattle.rpm_pkgdb.specs.laws.Parts.{moved_slot}
pub use Rattle.rpm_pkgdb.specs.Pairs.{MapWithoutOne, find_in, SlotIndex, IsAt, IsGapFor, IsGreatest, IsNextFound, IsStrictlySorted, key_at_place, Pairs}
pub use Rattle.rpm_pkgdb.specs.Placing.{fits, placed_spare, Placement, placement_of, put_in, replaced_by, with_placed}
pub use Rattle.rpm_pkgdb.specs.laws.Parts.{all_moves, is_first, one_before}
unfoldable pub use Rattle.rpm_pkgdb.specs.Placing.{count_before, first_fit, first_free, first_used, moves_from, next_move, page_moves, placement, placed_in}
pub use Rattle.rpm_pkgdb.specs.Planned.{CantMove, HoldsPage, IsFor, IsStoreFull, IsPlan, moves_of}
pub use Rattle.rpm_pkgdb.specs.Planned.IsStoreFull.{NoMove, NoRoom}
pub use Rattle.rpm_pkgdb.specs.Plans.{AreAllUsed, FitsSlots, FitsNowhere, IsFirstFree, IsLeast, IsTarget}
pub use Rattle.rpm_pkgdb.specs.laws.Parts.{slot_for}
pub use Rattle.rpm_pkgdb.specs.Puts.{IsPut}
pub use Rattle.rpm_pkgdb.specs.Quiet.{Anything, StoreBeforeOrAfter, BlobMap, HasSlot, IsFirstPage, IsQuiet, SameBlocks, RepresentsStore, Represents, with_free}
pub use Rattle.rpm_pkgdb.specs.Reaches.{store_end}
pub use Rattle.rpm_pkgdb.specs.laws.Parts.{last_end}
pub use Rattle.rpm_pkgdb.specs.Rewritten.{EraseCrashes, IsErased, IsRaised}
pub use Rattle.rpm_pkgdb.specs.Slots.{end_of, free, has_number, is_used, IsPackageNumber, slots_meet, slot_at, slot_of, slot_with}
pub use Rattle.rpm_pkgdb.specs.laws.Parts.{greatest_number}
unfoldable pub use Rattle.rpm_pkgdb.specs.Slots.{slots_in}
pub use Rattle.rpm_pkgdb.specs.Stays.{AllStay, blocks_with, OthersStay, SameOutside, StaysBut}
pub use Rattle.rpm_pkgdb.specs.Store.{blank_store, in_file, is_blank, KeepsStore, next_number, OpenIs, DamageIs, SaysHere, Store}
pub use Rattle.rpm_pkgdb.specs.laws.Parts.{made_or_damaged, made_store}
pub use Rattle.rpm_pkgdb.specs.Store.{store_of_pages}
pub use Rattle.rpm_pkgdb.specs.laws.Parts.{value_or_fault}
unfoldable pub use Rattle.rpm_pkgdb.specs.Store.{store}
pub use Rattle.rpm_pkgdb.specs.Undamaged.{AreSlotsApart, AreSound, IsHeadUnit, IsLawfulCount, IsMade, IsPlaced, IsSlotUnit}
pub use Rattle.rpm_pkgdb.specs.Words.{begins_with_word}
pub use Rattle.rpm_pkgdb.specs.laws.Parts.{is_nonzero}
unfoldable pub use Rattle.rpm_pkgdb.specs.Words.{word}
pub use Rattle.rpm_pkgdb.specs.Written.{AreZeros, without_number, ErasesTo, made_new, MakesTo, next_field, PutsTo, RaisesTo, with_put}
pub use Rattle.rpm_pkgdb.specs.laws.Parts.{field_after, freed_slot, freed_slots}
pub use Rattle.rpm_pkgdb.specs.Written.{with_generation, with_plan, with_spare}
pub use Rattle.rpm_pkgdb.specs.laws.Parts.{with_next}
pub use Rattle.rpm_pkgdb.specs.declared.added_page.Move.{Move}
pub use Rattle.rpm_pkgdb.specs.declared.blob.GetFault.{GetFault}
pub use Rattle.rpm_pkgdb.specs.declared.blob.GetFault.TheVariants.{Bad, NoSuch}
pub use Rattle.rpm_pkgdb.specs.declared.keys.Order.{Order}
pub use Rattle.rpm_pkgdb.specs.declared.keys.Order.TheVariants.{FirstBlock, Number}
pub use Rattle.rpm_pkgdb.specs.declared.page_plan.Page.{Page}
pub use Rattle.rpm_pkgdb.specs.declared.plan.Plan.{Plan}
pub use Rattle.rpm_pkgdb.specs.declared.plan.PlanFault.TheVariants.{StoreFull}
pub use Rattle.rpm_pkgdb.specs.declared.plan.Target.{Target}
pub use Rattle.rpm_pkgdb.specs.declared.reading.Reading.{Reading}
pub use Rattle.rpm_pkgdb.specs.declared.reading.Rising.{Rising}
pub use Rattle.rpm_pkgdb.specs.declared.slot.Damage.{Damage}
pub use Rattle.rpm_pkgdb.specs.declared.slot.OpenFault.{OpenFault}
pub use Rattle.rpm_pkgdb.specs.declared.slot.OpenFault.TheVariants.{Damaged, DiskFault, NoMemory}
pub use Rattle.rpm_pkgdb.specs.declared.slot.Reason.{Reason}
pub use Rattle.rpm_pkgdb.specs.declared.slot.Slot.{Slot}
pub use Rattle.rpm_pkgdb.specs.declared.table.Table.{Table}
pub use Rattle.rpm_pkgdb.specs.inner.Clear.{HasUnits, IsClear}
pub use Rattle.rpm_pkgdb.specs.inner.Grows.{CanGrow, HasFreePage, with_page}
pub use Rattle.rpm_pkgdb.specs.inner.Keeping.{AreUsedTo, IsKept}
pub use Rattle.rpm_pkgdb.specs.inner.Keys.{AllApart, ArePairs, AreRangesOfPairs, AreKeysRising, AreRisingTo, BlocksApart, IsPairOf, key_end, key_of, place_at}
pub use Rattle.rpm_pkgdb.specs.inner.Keys.{slot_in}
pub use Rattle.rpm_pkgdb.specs.inner.Maps.{MapWithOne, HasPlaces, HasRanges, is_range, IsKnown, IsLast}
pub use Rattle.rpm_pkgdb.specs.inner.Meetings.{first_shared_fault, shared_fault}
pub use Rattle.rpm_pkgdb.specs.inner.MoveLists.{AreMovesOf, CanGrowBy, IsMovable, IsNextOf, move_at, no_move, with_move, with_moves}
pub use Rattle.rpm_pkgdb.specs.inner.Moving.{AreMoved, CanGrowFrom, CanMoveAll, IsGrown, IsPageAdded}
pub use Rattle.rpm_pkgdb.specs.inner.Pages.{AllMoved, HasPlacesBefore, HasPlacesSoFar, IsFirstBefore, IsFirstSoFar, IsPlanning, IsRanged}
pub use Rattle.rpm_pkgdb.specs.inner.Puts.{BlobPut, BlobTorn, CanPut, FieldPut, FieldTorn, RepresentsPut, WhilePut}
pub use Rattle.rpm_pkgdb.specs.inner.Puts.WhilePut.{After, Before, Numbered}
pub use Rattle.rpm_pkgdb.specs.inner.Putting.{IsBlobPut}
pub use Rattle.rpm_pkgdb.specs.inner.Ranges.{AreRangesOf, AreRangesTo, Forgets, ForgetsSlot, HasStart, HasUsed, IsFreeIn, range_of_slot, HasRange, UsedSlotOf}
pub use Rattle.rpm_pkgdb.specs.inner.Reading.{slots_with, AreRead, EndOfUnits, fault_of, IsAll, AreSlotsRead}
pub use Rattle.rpm_pkgdb.specs.inner.Rising.{Awaits, free_from, PairsInOrder, IsInOrder}
pub use Rattle.rpm_pkgdb.proofs.laws.Runs.{option_or-assoc, range_next, run, run-append, same_map, table_is_first, table_is_run}
pub use Rattle.rpm_pkgdb.specs.inner.Settings.{blocks_of, CanMove, CanSet, NoShorter, RepresentsSlot, WhileMoved, with_slot}
pub use Rattle.rpm_pkgdb.specs.inner.Still.{RepresentsBlobs}
pub use Rattle.rpm_pkgdb.specs.inner.Tables.{AreBounded, AreNumbered, AreOwn}
unfoldable pub use Rattle.rpm_pkgdb.specs.inner.Weights.{weights}
pub use Rattle.rpm_pkgdb.specs.inner.Within.{KeepsEnd, AreBlocksWithin, MovesWithin}
pub use Rattle.std.specs.BTreeMap.{get}
pub use Rattle.std.specs.Cmp.{unsigned_tied}
pub use Rattle.std.specs.Int.{from_le_bytes, w32}
pub use Rattle.std.specs.List.{AllByRecursion, filter, find, fold, list_any, position_or_len, range_with_len, reduce, remove, sum}
unfoldable pub use Rattle.std.specs.List.{IsDistinct}
pub use Rattle.std.specs.List.Sorted.{IsBinarySearchResult, IsNonDecreasingBy, IsPermutation, IsSearchInRange, IsStrictlySortedBy}
pub use Rattle.std.specs.Option.{option_and_then, option_map, option_or}
pub use Rattle.std.specs.Ordering.{eq_by_cmp, is_gt, is_lt, nat_cmp, ordering_index}
pub use Rattle.std.specs.Vec.{vec_capacity, vec_len}
pub use Rattle.std.specs.declared.cmp.Ordering.TheVariants.{Less}
