-- The words of proofs, from one place.
pub use Rattle.rpm_effects.specs.Progress.{halt_of}
pub use Rattle.rpm_change.specs.Progress.{WholeTurn, IsOwing, ProgressInBoth, ProgressBy, ProgressOwing}
pub use Rattle.rpm_exercise.specs.Headers.{numbered_word, generated_items, package_items, version}
pub use Rattle.rpm_change.specs.Limits.{is_limit}
pub use Rattle.rpm_change.specs.Singles.{GathersOne, IsOfChange, IsSpent}
pub use Rattle.rpm_effects.specs.Steps.{apply_all, Course, whole_step}
pub use Rattle.rpm_effects.specs.Shown.{EndedOnOut, EndedQuietly}
pub use Rattle.rpm_effects.specs.declared.tally.Halt.{Halt}
pub use Rattle.rpm_effects.specs.declared.tally.Tally.{Tally}
pub use Rattle.rpm_effects.proofs.laws.Courses.{none_gone, plus, stopped_by}
pub use Rattle.rpm_effects.proofs.laws.Reaching.{through_none}
pub use Rattle.rpm_change.proofs.laws.Going.{counted_went, none_went, stopped_went, went_ahead, went_then, whole_bad}
pub use Rattle.rpm_change.proofs.laws.Parts.{Going, going_begin, going_end, going_more, going_stop}
pub use Rattle.rpm_change.proofs.laws.Handing.{err_is}
pub use Rattle.rpm_effects.proofs.laws.Joins.{out_gone, quiet_joins, quiet_none, quiet_stopped, cause_then}
pub use Rattle.rpm_change.specs.inner.IndexLaws.{at_index, by_index}
pub use Rattle.rpm_change.proofs.laws.Leaving.{current_left, none_by, remade_log, remade_then, state_remade}
pub use Rattle.rpm_change.proofs.laws.Owing.{list_finished, list_stopped, list_unfinished, owing_begun, owing_none, owing_then}
pub use Rattle.rpm_change.proofs.laws.Reading.{left_read, looks_run, reads_on}
pub use Rattle.rpm_change.proofs.laws.Single.{other_stop}
pub use Rattle.rpm_change.proofs.laws.Telling.{told_all, told_none, told_part}
pub use Rattle.rpm_db.specs.Asked.{IsAskable}
pub use Rattle.rpm_db.specs.Changes.{Change, next}
pub use Rattle.rpm_db.specs.Database.{Database, is_indexed}
pub use Rattle.rpm_db.specs.Frame.{packages_in, Runs, state_in}
pub use Rattle.rpm_db.specs.Database.{store_of}
pub use Rattle.rpm_db.proofs.laws.FromOne.{from_one}
pub use Rattle.rpm_db.specs.Gathering.{due, IsGathering, OwesOn}
pub use Rattle.rpm_db.specs.Refusals.{IsOfIndex}
pub use Rattle.rpm_db.proofs.laws.Running.{runs_looks, runs_none}
pub use Rattle.rpm_db.specs.Runs.{SameFiles}
pub use Rattle.rpm_db.specs.State.{above, Package, State}
pub use Rattle.rpm_db.specs.declared.change_fault.ChangeFault.{ChangeFault}
pub use Rattle.rpm_db.specs.declared.netting.RowChange.{RowChange}
pub use Rattle.rpm_exercise.specs.Endings.{IsOfAsking, IsOfExercise, IsOfQuestion, stop_of}
pub use Rattle.rpm_exercise.specs.Exercised.{capability_line, capability_lines, capability_named, count_line, digest_line, exercise, exported_bytes}
pub use Rattle.rpm_exercise.specs.Exercised.{picked_count}
unfoldable pub use Rattle.rpm_exercise.specs.Exercised.{summary}
pub use Rattle.rpm_exercise.specs.Ready.{ExerciseQuestion, GathersThrough, IsStop}
pub use Rattle.rpm_exercise.specs.Rounds.{changes_after, IsOfChanges, course_of_changes, round_changes, round_turn}
unfoldable pub use Rattle.rpm_exercise.specs.Rounds.{changes}
pub use Rattle.rpm_outside.specs.Files.{Files, Units}
pub use Rattle.rpm_outside.specs.Frame.{DiskFault, OnlyReadsFile}
pub use Rattle.rpm_outside.specs.declared.buffered.Buffered.{Buffered}
pub use Rattle.rpm_outside.specs.declared.disk.File.TheVariants.{Idx}
pub use Rattle.rpm_select.specs.Frame.{HasKeptRows}
pub use Rattle.rpm_select.specs.Picks.{entry_in, is_broken, number_in}
pub use Rattle.rpm_select.specs.Reach.{Serves}
pub use Rattle.rpm_select.specs.Selections.{picks}
pub use Rattle.rpm_select.specs.declared.picked.PickFault.{PickFault}
pub use Rattle.rpm_select.specs.declared.picked.Picked.{Picked}
pub use Rattle.rpm_select.specs.declared.picked.Picked.TheVariants.{Bad, Good}
pub use Rattle.rpm_select.specs.declared.selection.Selection.{Selection}
pub use Rattle.rpm_select.proofs.laws.Rising.{next_picked, picks_from_one}
unfoldable pub use Rattle.rpm_version.specs.Capability.{capability, words}
pub use Rattle.sha2.specs.Hashers.{Holds256}
pub use Rattle.sha2.specs.Sha256.{sha256}
pub use Rattle.sha2.specs.declared.Sha256.{Sha256}
pub use Rattle.std.specs.List.{flat_map, range_with_len}
pub use Rattle.std.specs.Ordering.{nat_cmp}
pub use Rattle.std.specs.String.{string_bytes}
pub use Rattle.rpm_header.specs.Build.{IsText}
pub use Rattle.rpm_header.specs.Header.{Item, alignment}
unfoldable pub use Rattle.rpm_header.specs.Laid.{entry_bytes, data_from, offset_of}
pub use Rattle.rpm_header.specs.laws.Words.{end_of_data}
pub use Rattle.rpm_header.specs.declared.form.Form.{Form}
pub use Rattle.std.specs.Fmt.{decimal}
pub use Rattle.std.specs.Int.{next_multiple_of}
pub use Rattle.std.specs.Str.Parse.{AllDigits}
