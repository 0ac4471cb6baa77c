-- The words of proofs, from one place.
pub use Rattle.rpm_db.proofs.laws.Above.{all_above_zero, next_above, nothing_above}
pub use Rattle.rpm_db.specs.Answers.{ReadAnswer}
pub use Rattle.rpm_db.specs.Changed.{IsLeft, Makes}
pub use Rattle.rpm_db.specs.Changes.{Add, apply, Change, changed_number, Erase, IsBetween, IsChangedStill, IsServing, next, Put, ReadsAtMost, Says}
pub use Rattle.rpm_db.specs.Database.{Database, database_of, generation_of, has_failed, holds, IsConsistent, IsIndexed, IsCurrentIndex, IsNext}
pub use Rattle.rpm_db.specs.Database.{KeepsUnits, store_of, without_index}
pub use Rattle.rpm_db.specs.Frame.{Runs, StaysBetween}
pub use Rattle.rpm_db.proofs.laws.FromOne.{none_stored}
pub use Rattle.rpm_db.specs.Gathering.{with_rows}
pub use Rattle.rpm_db.specs.Gathering.{Balances, due, due_units, GatheredChange, Gathers, IsGathering, IsOrdered, no_row_changes, Owes, OwesOn}
pub use Rattle.rpm_db.specs.Gathering.{resumed_database, sealed_in}
pub use Rattle.rpm_db.specs.Inits.{IsEmpty, IsEmptyStill}
pub use Rattle.rpm_db.specs.Lawful.{Agrees, AreLawful, HasRows, is_current_at, IsIndexOf, IsLawful, IsLawfulStill, IsOfRows, IsUnsealed, IsWholeIndex, Remade}
pub use Rattle.rpm_db.specs.Lawful.{StaysLawful}
pub use Rattle.rpm_db.specs.Openings.{IsOpened, IsOpenedOn, must_rebuild, StoreIs, units_needed}
pub use Rattle.rpm_db.proofs.laws.Own.{header-own}
pub use Rattle.rpm_db.proofs.laws.PackageLaws.{get-packages, is_there}
pub use Rattle.rpm_db.specs.Reaches.{added_rows, dropped_rows, found_rows, ReachesMade}
pub use Rattle.rpm_db.specs.laws.Parts.{added_units}
pub use Rattle.rpm_db.specs.Refusals.{AddAnswer, BadCause, BadIndexIs, EraseCause, EraseAnswer, FullCause, FullIndexIs, is_stopping, IsOfStoreErasing}
pub use Rattle.rpm_db.specs.Refusals.{IsOfIndex}
pub use Rattle.rpm_db.specs.Refusals.{IsOfReading}
pub use Rattle.rpm_db.specs.Refusals.{IsRead, IsRefusal, LaterCause, LaterIs, PutAnswer, PutsHeader, WholeCause}
pub use Rattle.rpm_db.specs.Room.{next_store, RoomCause}
pub use Rattle.rpm_db.specs.inner.Writes.{raised_store}
pub use Rattle.rpm_db.proofs.laws.RowLaws.{of_at, rows-insert, rows-remove, times-append, times-rows, times_none, times_one}
pub use Rattle.rpm_db.specs.Rows.{kinds, package_rows, rows_at}
pub use Rattle.rpm_db.specs.laws.Parts.{key_row, kind_rows, rows_in, rows_read}
unfoldable pub use Rattle.rpm_db.specs.Rows.{header_rows, rows}
pub use Rattle.rpm_db.proofs.laws.Running.{runs_index, runs_looks, runs_sync, runs_then, runs_weaker}
pub use Rattle.rpm_db.specs.Runs.{ImageFrom, SameFiles, SameLog}
pub use Rattle.rpm_db.specs.State.{above, Bad, Good, Package, package_of, state}
pub use Rattle.rpm_db.specs.laws.Parts.{read_as}
unfoldable pub use Rattle.rpm_db.specs.State.{packages}
pub use Rattle.rpm_db.proofs.laws.StateLaws.{next-state, next_is_free, package-own, packages-blobs, packages-insert, packages-remove, state-blobs}
pub use Rattle.rpm_db.specs.Verdicts.{KeepsVerdicts, verdict, verdict_of}
pub use Rattle.rpm_db.specs.declared.change_fault.ChangeFault.{ChangeFault}
pub use Rattle.rpm_db.specs.declared.change_fault.ChangeFault.TheVariants.{BadHeader, BadIndex, DiskFault, GenerationSpent, IndexFull, NoMemory, NoSuch}
pub use Rattle.rpm_db.specs.declared.change_fault.ChangeFault.TheVariants.{NumbersSpent, Stopped, StoreFull}
pub use Rattle.rpm_db.specs.inner.Both.{CanChange, IndexIs, IsApplied, LeadsTo, IsDone, IsBothRefused, IsStoreWritten}
pub use Rattle.rpm_db.specs.inner.Edits.{CanEdit, edit_cost, edited_blobs, edited_number, EditReaches, EditsTo, field_edited, HasEdit, IsEdited, KeepsSums}
pub use Rattle.rpm_db.specs.declared.netting.RowChange.{RowChange}
pub use Rattle.rpm_db.specs.declared.netting.Standing.{Standing}
pub use Rattle.rpm_db.specs.declared.planning.PackageChange.{PackageChange}
pub use Rattle.rpm_db.specs.declared.writing.Edit.{Edit}
pub use Rattle.rpm_db.specs.inner.Faults.{store_fault}
pub use Rattle.rpm_db.specs.inner.Filling.{AreOfRows, CanPutAside, IsForeseen, IsIndexPlanned, IsPutAside, TakesRows}
pub use Rattle.rpm_db.proofs.LawfulLaws.{remade_lawful, remade_none, remade_then, crashes_lawful, void_agrees}
pub use Rattle.rpm_db.specs.inner.Making.{CanMake, IsEmptyIndex, IsSealedHere}
pub use Rattle.rpm_db.specs.inner.Order.{AreInOrder, AreNetted, AreWithout, is_row_before, row_cmp, row_of}
pub use Rattle.rpm_db.specs.inner.PackageChanges.{blobs_asked, bytes_asked, change_asked, EndsAsked, FitsAsked, HasRoomForRows, IsEditPlanned, IsFullFor}
pub use Rattle.rpm_db.specs.inner.PackageChanges.{IsOfAside, IsOwnHeader, IsPlaceRefused, IsPlanAsked, number_asked, refused_store, rows_asked}
pub use Rattle.rpm_db.specs.inner.Writes.{BlobsTo, cost_before, field_for, IndexTo, IsSealedAfter, number_for, old_rows, packages_of}
pub use Rattle.rpm_db.specs.Changes.{change_at}
pub use Rattle.rpm_db.specs.inner.Writes.{sealed_after, state_of, state_with, WritesRows, WritesWhole}
pub use Rattle.rpm_header.specs.Header.{Header, header}
pub use Rattle.rpm_header.specs.declared.form.HeaderFault.{HeaderFault}
pub use Rattle.rpm_hindex.specs.Answers.{AreHits, FindIs, IsOutsideIndex, row_of_hit}
pub use Rattle.rpm_hindex.specs.Images.{IsSealed, SealedOrSame, VoidOrSame, VoidOrSameSeal}
pub use Rattle.rpm_hindex.specs.Index.{chain, index_in, records}
pub use Rattle.rpm_hindex.specs.Plans.{file_after, buckets_after, HasChanged, reach_with, ReachesFor, units_after}
unfoldable pub use Rattle.rpm_hindex.specs.Plans.{IsPlanFor}
pub use Rattle.rpm_hindex.specs.Rows.{hash_of, no_row, Row, row_nth, same_row, SameRows}
unfoldable pub use Rattle.rpm_hindex.specs.Rows.{times}
pub use Rattle.rpm_hindex.specs.Sizes.{units_for}
unfoldable pub use Rattle.rpm_hindex.specs.Sizes.{bucket_count, is_bucket_count, live_of}
pub use Rattle.rpm_hindex.specs.State.{buckets_of, is_headed, seal_unit, sealed_generation, IndexState}
unfoldable pub use Rattle.rpm_hindex.specs.State.{is_current, is_in_order, is_ordered}
pub use Rattle.rpm_hindex.specs.Whole.{IsWellFormed}
pub use Rattle.rpm_hindex.specs.declared.faults.FindFault.{FindFault}
pub use Rattle.rpm_hindex.specs.declared.faults.RewriteFault.{RewriteFault}
pub use Rattle.rpm_hindex.specs.declared.hits.Hit.{Hit}
pub use Rattle.rpm_hindex.specs.declared.plan.Work.{Work}
pub use Rattle.rpm_outside.specs.Causes.{HasCauseAt}
pub use Rattle.rpm_outside.specs.Changes.{IsImageOfChange, IsDurable, OnlyIn, IsTornOnly}
pub use Rattle.rpm_outside.specs.Crash.{bytes_for}
pub use Rattle.rpm_outside.specs.Leaves.{CrashLeavesOnly}
pub use Rattle.rpm_outside.specs.Files.{blank, Files, with_units, unit_at, Units}
pub use Rattle.rpm_outside.specs.Frame.{Changes, images, CrashLeaves, OnlyReads}
pub use Rattle.rpm_outside.specs.declared.disk.File.{File}
pub use Rattle.rpm_outside.specs.declared.disk.File.TheVariants.{Idx, Log, Pkg}
pub use Rattle.rpm_outside.proofs.laws.Changing.{changes_between, changes_then, changes_weaker, crashes_then, crashes_weaker}
pub use Rattle.rpm_outside.proofs.laws.Looking.{looks_more, looks_none, looks_then}
pub use Rattle.rpm_outside.proofs.laws.Moments.{leaves_then, leaves_weaker}
pub use Rattle.rpm_pkgdb.specs.Answers.{AnswerIs, given_bytes}
pub use Rattle.rpm_pkgdb.proofs.laws.BlobLaws.{get-blobs, get-blobs-frames}
pub use Rattle.rpm_pkgdb.specs.Blobs.{blob_in, Frame, frame_of, frames}
pub use Rattle.rpm_pkgdb.specs.laws.Parts.{entry_of_slot}
unfoldable pub use Rattle.rpm_pkgdb.specs.Blobs.{blobs}
pub use Rattle.rpm_pkgdb.specs.Checksums.{checksum_holds, checksums_hold}
pub use Rattle.rpm_pkgdb.specs.Costs.{cost, cost_all, cost_to, cost_to-cost_all, cost_to_more}
pub use Rattle.rpm_pkgdb.specs.Damages.{slot_units, table_fault}
unfoldable pub use Rattle.rpm_pkgdb.specs.Damages.{head_reason}
pub use Rattle.rpm_pkgdb.specs.Growing.{moving_cost, NeedsPage}
pub use Rattle.rpm_pkgdb.specs.Placing.{placement, placed_generation, Placement, placement_of, put_in, with_placed}
pub use Rattle.rpm_pkgdb.specs.Planned.{IsFor, IsStoreFull, IsPlan, moves_of}
pub use Rattle.rpm_pkgdb.specs.Quiet.{Anything, BlobMap, IsQuiet, RepresentsStore, Represents}
pub use Rattle.rpm_pkgdb.specs.Slots.{free, is_used, slot_with}
pub use Rattle.rpm_pkgdb.specs.Stays.{SameOutside}
pub use Rattle.rpm_pkgdb.specs.Store.{blank_store, in_file, is_blank, KeepsStore, next_number, Store}
pub use Rattle.rpm_pkgdb.specs.laws.Parts.{made_or_damaged, made_store, value_or_fault}
unfoldable pub use Rattle.rpm_pkgdb.specs.Store.{store}
pub use Rattle.rpm_pkgdb.specs.Words.{begins_with_word, word}
pub use Rattle.rpm_pkgdb.specs.Written.{without_number, made_new, MakesTo, next_field, RaisesTo, with_generation, with_plan}
pub use Rattle.rpm_pkgdb.specs.laws.Parts.{field_after}
pub use Rattle.rpm_pkgdb.specs.Written.{with_spare}
pub use Rattle.rpm_pkgdb.specs.declared.added_page.Move.{Move}
pub use Rattle.rpm_pkgdb.specs.declared.blob.GetFault.{GetFault}
pub use Rattle.rpm_pkgdb.specs.declared.plan.Plan.{Plan}
pub use Rattle.rpm_pkgdb.specs.declared.plan.Target.{Target}
pub use Rattle.rpm_pkgdb.specs.declared.slot.Damage.{Damage}
pub use Rattle.rpm_pkgdb.specs.declared.slot.OpenFault.{OpenFault}
pub use Rattle.rpm_pkgdb.specs.declared.slot.Reason.{Reason}
pub use Rattle.rpm_pkgdb.specs.declared.slot.Slot.{Slot}
pub use Rattle.rpm_tags.specs.Kinds.{code_of}
pub use Rattle.rpm_tags.specs.declared.kind.Kind.{Kind}
pub use Rattle.std.specs.List.{filter, flat_map}
pub use Rattle.std.specs.Option.{option_map}
pub use Rattle.std.specs.Ordering.{nat_cmp}
pub use Rattle.std.specs.declared.alloc.Global.{Global}
