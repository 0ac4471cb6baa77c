-- The words of clauses, from one place.
pub use Rattle.std.specs.BTreeMap.{get}
pub use Rattle.std.specs.List.{list_any}
pub use Rattle.std.specs.Ordering.{nat_cmp}
pub use Rattle.rpm_blocks.specs.Blocks.{block_limit}
pub use Rattle.rpm_outside.specs.Changes.{IsSame}
pub use Rattle.rpm_outside.specs.Crash.{Torn}
pub use Rattle.rpm_outside.specs.Files.{Files, FitsAt, Units, blank, bytes_of, with_units, unit_at, units_of}
pub use Rattle.rpm_outside.specs.Frame.{IsDurable, ReadsOnly, ReadsOr, Writes}
pub use Rattle.rpm_outside.specs.declared.disk.File.TheVariants.{Pkg}
pub use Rattle.rpm_pkgdb.specs.Answers.{AnswerIs, AreParts, IsFrame, IsOutsideBlob, frame_in, given_bytes, given_blob}
pub use Rattle.rpm_pkgdb.specs.Answers.{given_check}
pub use Rattle.rpm_pkgdb.specs.Blobs.{blob_in, blobs, blocks_for, frame_of, frames, is_framed, is_head, is_tail}
pub use Rattle.rpm_pkgdb.specs.Checksums.{adler, checksum_holds, checksums_hold, sums}
pub use Rattle.rpm_pkgdb.specs.Costs.{cost, opening_cost}
pub use Rattle.rpm_pkgdb.specs.Damages.{damage_at, head_reason, own_reason, shared_reason, slot_units, table_fault}
pub use Rattle.rpm_pkgdb.specs.Frame.{IsWritable, Quiet, CrashLeavesFile, ReadsBlob, pkg}
pub use Rattle.rpm_pkgdb.specs.Framing.{framed_blob, head_of, next_unit, padding, summed_bytes, tail_of}
pub use Rattle.rpm_pkgdb.specs.Growing.{AreBehind, CanAdd, NeedsPage, grown, moving_cost, next_end}
pub use Rattle.rpm_pkgdb.specs.laws.Parts.{moved_slot}
pub use Rattle.rpm_pkgdb.specs.Pairs.{MapWithoutOne, IsAt, IsGapFor, IsGreatest, IsNextFound, IsStrictlySorted, Pairs}
pub use Rattle.rpm_pkgdb.specs.Pairs.{find_in}
pub use Rattle.rpm_pkgdb.specs.Pairs.{key_at_place}
pub use Rattle.rpm_pkgdb.specs.Planned.{CantMove, HoldsPage, IsFor, IsStoreFull, IsPlan, moves_of}
pub use Rattle.rpm_pkgdb.specs.Planning.{HasMoreRoom, HasNoPlace, IsPlanned}
pub use Rattle.rpm_pkgdb.specs.Plans.{AreAllUsed, FitsNowhere, IsFirstFree, IsLeast, IsTarget}
pub use Rattle.rpm_pkgdb.specs.laws.Parts.{slot_for}
pub use Rattle.rpm_pkgdb.specs.Puts.{AfterPut, IsPut, PutCrashes}
pub use Rattle.rpm_pkgdb.specs.Quiet.{Anything, StoreBeforeOrAfter, HasSlot, IsFirstPage, with_free}
pub use Rattle.rpm_pkgdb.specs.Rewritten.{EraseCrashes, IsErased, IsMadeNew, IsRaised}
pub use Rattle.rpm_pkgdb.specs.Slots.{IsPackageNumber, end_of, free, has_number, is_used, slots_meet, slot_at, slot_of}
pub use Rattle.rpm_pkgdb.specs.Slots.{slot_with, slots_in}
pub use Rattle.rpm_pkgdb.specs.Stays.{SameOutside}
pub use Rattle.rpm_pkgdb.specs.Store.{KeepsStore, OpenIs, DamageIs, SaysHere, Store, blank_store, in_file, next_number}
pub use Rattle.rpm_pkgdb.specs.Store.{store}
pub use Rattle.rpm_pkgdb.specs.Store.{store_of_pages}
pub use Rattle.rpm_pkgdb.specs.Undamaged.{AreSound, IsHeadUnit, IsSlotUnit}
pub use Rattle.rpm_pkgdb.specs.Words.{word}
pub use Rattle.rpm_pkgdb.specs.laws.Parts.{is_nonzero}
pub use Rattle.rpm_pkgdb.specs.Written.{MakesTo, RaisesTo, without_number, made_new, next_field}
pub use Rattle.rpm_pkgdb.specs.laws.Parts.{field_after}
pub use Rattle.rpm_pkgdb.specs.Written.{stopped_store}
pub use Rattle.rpm_pkgdb.specs.Written.{with_put, with_generation, with_plan, with_spare}
pub use Rattle.rpm_pkgdb.specs.declared.slot.Slot.{Slot}
pub use Rattle.rpm_pkgdb.specs.inner.Grows.{with_page}
pub use Rattle.rpm_pkgdb.specs.inner.Keeping.{AreUsedTo}
pub use Rattle.rpm_pkgdb.specs.inner.Keys.{AllApart, ArePairs, AreKeysRising, AreRisingTo, BlocksApart, key_end, key_of}
pub use Rattle.rpm_pkgdb.specs.inner.Maps.{MapWithOne, CanKeep, HasPlaces, IsKnown, IsLast}
pub use Rattle.rpm_pkgdb.specs.inner.Meetings.{first_shared_fault, shared_fault}
pub use Rattle.rpm_pkgdb.specs.inner.MoveLists.{CanGrowBy, IsMovable, move_at}
pub use Rattle.rpm_pkgdb.specs.inner.Moving.{AreBlocksMoved, AreMoved, CanGrowFrom, CanMoveAll, IsGrown, IsPageAdded}
pub use Rattle.rpm_pkgdb.specs.inner.Moving.{IsSlotFreed}
pub use Rattle.rpm_pkgdb.specs.inner.Pages.{AllMoved, HasPlacesBefore, IsFirstBefore, IsPlanning, IsRanged}
pub use Rattle.rpm_pkgdb.specs.inner.Puts.{BlobPut, BlobTorn, CanPut, FieldPut, FieldTorn, IsTargetFor, WhilePut}
pub use Rattle.rpm_pkgdb.specs.inner.Putting.{HasRoomFor, IsBlobPut, IsReplaced}
pub use Rattle.rpm_pkgdb.specs.inner.Ranges.{AreRangesOf, Forgets, ForgetsSlot, HasStart, HasUsed, IsFreeIn}
pub use Rattle.rpm_pkgdb.specs.inner.Ranges.{HasRange}
pub use Rattle.rpm_pkgdb.specs.inner.Reading.{AreRead, AreSlotsRead, slots_with, fault_of}
pub use Rattle.rpm_pkgdb.specs.inner.Rising.{ArePages, Awaits, IsInOrder}
pub use Rattle.rpm_pkgdb.specs.inner.Settings.{CanMove, NoShorter, WhileMoved}
pub use Rattle.rpm_pkgdb.specs.inner.Still.{RepresentsBlobs}
pub use Rattle.rpm_pkgdb.specs.inner.Tables.{AreNumbered, AreRight, IsTableIndexed}
pub use Rattle.rpm_pkgdb.specs.inner.TwoRuns.{ComesBehind}
pub use Rattle.rpm_pkgdb.specs.inner.Weights.{weights}
