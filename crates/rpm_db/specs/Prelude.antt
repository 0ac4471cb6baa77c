-- The words of clauses, from one place.
pub use Rattle.std.specs.Option.{option_copied, option_map}
pub use Rattle.std.specs.Ordering.{nat_cmp}
pub use Rattle.rpm_header.specs.Digest.{immutable_digest}
pub use Rattle.rpm_header.specs.Header.{Header, header}
pub use Rattle.rpm_header.specs.declared.form.HeaderFault.{HeaderFault}
pub use Rattle.rpm_hindex.specs.Answers.{AreHits, ChainCosts}
pub use Rattle.rpm_hindex.specs.Index.{units_at}
pub use Rattle.rpm_hindex.specs.Plans.{reach_with, units_after}
pub use Rattle.rpm_hindex.specs.Rewrites.{IsRebuildRefused}
pub use Rattle.rpm_hindex.specs.Rows.{SameRows, row_nth, same_row}
pub use Rattle.rpm_hindex.specs.Sizes.{live_of, units_for}
pub use Rattle.rpm_outside.specs.Changes.{IsTornOnly}
pub use Rattle.rpm_outside.specs.Files.{Files, Units, unit_at}
pub use Rattle.rpm_outside.specs.Frame.{DiskCause, DiskFault, IsDurable, CrashLeaves, OnlyReads, OnlyReadsFile, Writes}
pub use Rattle.rpm_outside.specs.Frame.{images}
pub use Rattle.rpm_outside.specs.Looks.{ReadAtMost}
pub use Rattle.rpm_outside.specs.declared.disk.File.TheVariants.{Idx, Pkg}
pub use Rattle.rpm_pkgdb.specs.Blobs.{blobs}
pub use Rattle.rpm_pkgdb.specs.Costs.{cost_all, opening_cost}
pub use Rattle.rpm_pkgdb.specs.Quiet.{Anything, IsQuiet}
pub use Rattle.rpm_pkgdb.specs.Reaches.{ReachesTo}
pub use Rattle.rpm_pkgdb.specs.Slots.{slot_with}
pub use Rattle.rpm_pkgdb.specs.Store.{KeepsStore, store}
pub use Rattle.rpm_pkgdb.specs.Written.{made_new}
pub use Rattle.rpm_pkgdb.specs.Written.{with_spare}
pub use Rattle.rpm_pkgdb.specs.declared.slot.Damage.{Damage}
pub use Rattle.rpm_tags.specs.Kinds.{code_of}
pub use Rattle.rpm_tags.specs.Value.{first_text}
pub use Rattle.rpm_db.specs.Answers.{CutIs, FindAnswer, GetAnswer, ReadAnswer, VerifyAnswer, key_chain}
pub use Rattle.rpm_db.specs.Changed.{IsLeft, IsReady, Makes}
pub use Rattle.rpm_db.specs.Changes.{Add, Erase, IsChangedStill, IsServing, Put, ReadsAtMost, next, with_room}
pub use Rattle.rpm_db.specs.Database.{IsNext, KeepsIndex, KeepsUnits, DatabaseOpenIs, package_cost, generation_of}
pub use Rattle.rpm_db.specs.Database.{has_failed}
pub use Rattle.rpm_db.specs.Database.{holds}
pub use Rattle.rpm_db.specs.Database.{is_blank_database, is_indexed, next_package_number, store_of}
pub use Rattle.rpm_db.specs.Frame.{ReadsPackage, Runs, RunsOr, packages_in, state_in}
pub use Rattle.rpm_db.specs.Gathering.{Balances, Gathers, IsGathering, IsLeftSuspended, IsOrdered, HasItsRows, OwesOn}
pub use Rattle.rpm_db.specs.Gathering.{no_row_changes, resumed_database}
pub use Rattle.rpm_db.specs.Gathering.{sealed_in, suspended_database}
pub use Rattle.rpm_db.specs.Inits.{IsEmptyStill, IsInit, IsInitFault, IsThere, IsStoppedByFault}
pub use Rattle.rpm_db.specs.Lawful.{AreLawful, HasRows, IsOfRows, IsUnsealed, IsWholeIndex}
pub use Rattle.rpm_db.specs.Lawful.{IsLawfulStill, Remade, StaysLawful, is_current_at}
pub use Rattle.rpm_db.specs.Openings.{FullIs, FullOpenIs, IsOpened, IsOpenedOn, IsOutsideRebuild, OpeningReads, StoreIs}
pub use Rattle.rpm_db.specs.Openings.{WritesNothing}
pub use Rattle.rpm_db.specs.Reaches.{ReachesMade, found_rows}
pub use Rattle.rpm_db.specs.Rebuilds.{IsRebuilt, IsRenewed, IsStill, RebuildIs}
pub use Rattle.rpm_db.specs.Refusals.{AddAnswer, BadIndexIs, EraseAnswer, FullCause, FullIndexIs, IsOfIndex}
pub use Rattle.rpm_db.specs.Refusals.{IsOfReading}
pub use Rattle.rpm_db.specs.Refusals.{IsOfStoreErasing, IsOfRoom, IsRefusal, LaterIs, PutAnswer, StaysWhole, WholeCause}
pub use Rattle.rpm_db.specs.Refusals.{is_stopping}
pub use Rattle.rpm_db.specs.Room.{RoomIs, next_store}
pub use Rattle.rpm_db.specs.inner.Writes.{raised_store}
pub use Rattle.rpm_db.specs.Rows.{header_rows, rows, rows_at}
pub use Rattle.rpm_db.specs.laws.Parts.{kind_rows, rows_read}
pub use Rattle.rpm_db.specs.State.{Package, package_of, packages, state}
pub use Rattle.rpm_db.specs.Verdicts.{is_digest_wrong, verdict}
pub use Rattle.rpm_db.specs.inner.Verified.{digest_differs, header_verdict}
pub use Rattle.rpm_db.specs.declared.change_fault.ChangeFault.TheVariants.{BadHeader}
pub use Rattle.rpm_db.specs.declared.open_fault.DbOpenFault.TheVariants.{Damaged}
pub use Rattle.rpm_db.specs.inner.Both.{CanApply, CanChange, CanTake, IndexIs, IsApplied}
pub use Rattle.rpm_db.specs.inner.Both.{IsDone, IsStoreWritten}
pub use Rattle.rpm_db.specs.inner.Edits.{CanEdit, EditReaches, EditsTo, HasEdit, IsEdited, KeepsSums, Suits, edit_cost}
pub use Rattle.rpm_db.specs.inner.Edits.{edited_blobs, edited_number}
pub use Rattle.rpm_db.specs.inner.Edits.{field_edited}
pub use Rattle.rpm_db.specs.inner.Faults.{store_fault}
pub use Rattle.rpm_db.specs.inner.Filling.{AreOfRows, CanFill, CanPutAside, IsFilled, IsForeseen, IsIndexPlanned, IsPutAside}
pub use Rattle.rpm_db.specs.inner.Filling.{TakesRows}
pub use Rattle.rpm_db.specs.inner.Making.{CanIndex, CanMake, IsEmptyIndex, IsIndexFor, IsMadeEmpty, IsRemade}
pub use Rattle.rpm_db.specs.inner.Making.{IsSealedHere}
pub use Rattle.rpm_db.specs.inner.Order.{AreInOrder, AreNetted, is_row_before, row_of}
pub use Rattle.rpm_db.specs.inner.PackageChanges.{EndsAsked, FitsAsked, HasRoomForRows, IsEditPlanned, IsErasing, IsFullFor}
pub use Rattle.rpm_db.specs.inner.PackageChanges.{IsOfAside}
pub use Rattle.rpm_db.specs.inner.PackageChanges.{IsOwnHeader, blobs_asked, bytes_asked, change_asked, number_asked}
pub use Rattle.rpm_db.specs.inner.PackageChanges.{owed_with, refused_database, refused_store, rows_asked}
pub use Rattle.rpm_db.specs.Runs.{SameFiles, SameLog}
pub use Rattle.rpm_db.specs.inner.Writes.{BlobsTo, IndexTo}
pub use Rattle.rpm_db.specs.inner.Writes.{cost_before, field_for, number_for, old_rows, packages_of}
pub use Rattle.rpm_db.specs.inner.Writes.{state_of}
