-- The words of proofs, from one place.
pub use Rattle.rpm_change.specs.laws.Courses.{add_file, dropped_course, erase_one, import_next, list_course, missing_course, put_found, replacement}
pub use Rattle.rpm_change.specs.Adding.{add_files, as_installed, GivesInstalled, put_file}
pub use Rattle.rpm_db.specs.Changes.{change_at}
pub use Rattle.rpm_effects.specs.Endings.{stop_in}
pub use Rattle.rpm_effects.specs.Progress.{halt_of}
pub use Rattle.rpm_change.specs.Erasing.{erase}
pub use Rattle.rpm_change.specs.Importing.{import_from, import_list, imported_header, place_fails}
pub use Rattle.rpm_change.specs.Limits.{LimitsTurn}
pub use Rattle.rpm_change.specs.Rebuilding.{drop_each, dropped_line, rebuild}
pub use Rattle.rpm_change.specs.Singles.{GathersOne, HasTarget}
pub use Rattle.rpm_effects.specs.Steps.{apply_all, bearer, course_of_change, Course, course_of_failure, idle, in_turn, joined_courses, ToErr, whole_step}
pub use Rattle.rpm_effects.specs.Texts.{absent_line, header_text, refused_line}
pub use Rattle.rpm_change.specs.Turns.{from_place, ListEnd, HaltOfList, turn, turn_found}
pub use Rattle.rpm_change.specs.Progress.{IsOwing, EndStateBy, ProgressInBoth, ProgressOwing}
pub use Rattle.rpm_effects.specs.Shown.{EndedOnErr, EndedOnOut}
pub use Rattle.rpm_effects.specs.declared.tally.Halt.{Halt}
pub use Rattle.rpm_effects.specs.declared.tally.Tally.{Tally}
pub use Rattle.rpm_effects.proofs.laws.Courses.{refused_quietly, stop_by}
pub use Rattle.rpm_effects.proofs.laws.Reaching.{through_none}
pub use Rattle.rpm_change.proofs.laws.Going.{halted_went, line_went, none_went, reading_went, stopped_went, went_as, went_behind}
pub use Rattle.rpm_change.proofs.laws.Parts.{Going, going_end, going_more, going_start, going_stop}
pub use Rattle.rpm_change.proofs.laws.Handing.{err_is}
pub use Rattle.rpm_effects.proofs.laws.Joins.{err_joins, err_none, err_refused, err_stopped, hand_then, out_gone, out_joins, out_none, out_refused}
pub use Rattle.rpm_effects.proofs.laws.Joins.{out_stopped, took, no_tally}
pub use Rattle.rpm_change.specs.inner.IndexLaws.{at_index, by_index}
pub use Rattle.rpm_change.proofs.laws.Leaving.{left_after, none_by, remade_log, remade_then}
pub use Rattle.rpm_change.proofs.laws.LimitLaws.{limits_counted, makes_small}
pub use Rattle.rpm_change.proofs.laws.ReachLaws.{reached_anew}
pub use Rattle.rpm_change.proofs.laws.Reading.{looks_run, serving_read}
pub use Rattle.rpm_change.proofs.Ready.{ready_line}
pub use Rattle.rpm_change.proofs.laws.Single.{add_fault, erase_fault, fault_kind, fault_spent, SingleFaultIs, HasNumber, none_made, one_made, one_refused}
pub use Rattle.rpm_change.proofs.laws.Single.{other_stop, put_fault}
pub use Rattle.rpm_change.proofs.laws.Telling.{told_all, told_none, told_part}
pub use Rattle.rpm_db.proofs.laws.Above.{next_above, none_is, nothing_above}
pub use Rattle.rpm_db.specs.Changes.{Add, Change, Erase, next, Put}
pub use Rattle.rpm_db.specs.Database.{Database, generation_of, is_indexed, IsNext, next_package_number}
pub use Rattle.rpm_db.specs.Frame.{IsIndexed, packages_in, Runs, state_in}
pub use Rattle.rpm_db.specs.Database.{store_of}
pub use Rattle.rpm_db.specs.Gathering.{due, Gathers, IsGathering, IsLeftSuspended, OwesOn, resumed_database}
pub use Rattle.rpm_db.specs.Gathering.{suspended_database}
pub use Rattle.rpm_db.specs.Lawful.{IsWholeIndex, Remade}
pub use Rattle.rpm_db.specs.Reaches.{units_needed_after}
pub use Rattle.rpm_db.specs.Refusals.{AddAnswer, FullCause, IsOfIndex, WholeCause}
pub use Rattle.rpm_db.specs.Room.{next_store, RoomCause}
pub use Rattle.rpm_db.proofs.laws.Running.{runs_looks}
pub use Rattle.rpm_db.specs.Runs.{SameLog}
pub use Rattle.rpm_db.specs.State.{above, Bad, Good, Package, State}
pub use Rattle.rpm_db.proofs.laws.StateLaws.{next-state}
pub use Rattle.rpm_db.specs.declared.change_fault.ChangeFault.{ChangeFault}
pub use Rattle.rpm_db.specs.declared.netting.RowChange.{RowChange}
pub use Rattle.rpm_file.specs.Answers.{IsListFault}
pub use Rattle.rpm_file.specs.List.{BlobAndRest, list_head, size_in}
pub use Rattle.rpm_file.proofs.laws.Lists.{found_of_size, some_found}
unfoldable pub use Rattle.rpm_file.specs.List.{front_header}
pub use Rattle.rpm_file.specs.Package.{package_header, read_again}
pub use Rattle.rpm_file.specs.declared.fault.FileFault.{FileFault}
pub use Rattle.rpm_file.specs.declared.fault.ListFault.{ListFault}
pub use Rattle.rpm_file.specs.declared.fault.ListFault.TheVariants.{Short}
pub use Rattle.rpm_header.specs.Header.{Header, header}
pub use Rattle.rpm_outside.specs.Browses.{bytes_left}
pub use Rattle.rpm_outside.specs.Buffered.{inner}
pub use Rattle.rpm_outside.specs.Causes.{HasCauseAt}
pub use Rattle.rpm_outside.specs.Files.{Files}
pub use Rattle.rpm_outside.specs.Frame.{OnlyReads}
pub use Rattle.rpm_outside.specs.Shelves.{bytes_at, Paths}
pub use Rattle.rpm_outside.specs.declared.buffered.Buffered.{Buffered}
pub use Rattle.rpm_outside.specs.declared.disk.File.TheVariants.{Pkg}
pub use Rattle.rpm_pkgdb.specs.Reaches.{ReachesTo}
pub use Rattle.rpm_pkgdb.specs.Store.{Store}
pub use Rattle.std.specs.Cmp.{unsigned_tied}
pub use Rattle.std.specs.Ordering.{eq_by_cmp, nat_cmp}
