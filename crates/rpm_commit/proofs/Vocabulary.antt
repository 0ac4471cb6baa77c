-- The words of proofs, from one place.
pub use Rattle.rpm_change.specs.Adding.{add_files, IsOfPutting, replace}
pub use Rattle.rpm_effects.specs.Progress.{Done, CourseProgress, Outputs, Through}
pub use Rattle.rpm_change.specs.Erasing.{IsOfErasing, erase}
pub use Rattle.rpm_effects.specs.Hands.{Hand}
pub use Rattle.rpm_change.specs.Importing.{import_list}
pub use Rattle.rpm_commit.specs.Tasks.{max_headers}
pub use Rattle.rpm_change.specs.Limits.{limit_of_command, limit_of_changes, is_spent, LimitsTurn}
pub use Rattle.rpm_change.proofs.laws.Single.{is_large}
pub use Rattle.rpm_change.specs.Limits.{next_stores, limit_of_change, MeetsLimit}
pub use Rattle.rpm_db.specs.Reaches.{units_needed_after}
pub use Rattle.rpm_change.specs.Reaches.{idx_reach, pkg_reach, ChangesReachAnew}
pub use Rattle.rpm_change.specs.Rebuilding.{IsOfRebuilding, rebuild}
pub use Rattle.rpm_effects.specs.Steps.{apply_all, Course, idle}
pub use Rattle.rpm_change.specs.Turns.{IsOfImporting}
pub use Rattle.rpm_change.specs.Progress.{IsCurrent}
pub use Rattle.rpm_effects.specs.declared.tally.Halt.{Halt}
pub use Rattle.rpm_effects.specs.declared.tally.Tally.{Tally}
pub use Rattle.rpm_effects.proofs.laws.Courses.{none_gone}
pub use Rattle.rpm_change.specs.inner.IndexLaws.{at_index, by_index}
pub use Rattle.rpm_change.proofs.laws.LimitLaws.{makes_small, never_bad_made}
pub use Rattle.rpm_change.proofs.laws.ReachLaws.{idx_more, pkg_more, reached_anew, reached_none}
pub use Rattle.rpm_change.proofs.laws.Stores.{stores_paged}
pub use Rattle.rpm_commit.specs.Changing.{after, AllRowsFit, BadBy, ChangeProgress, EmptyBy, HasState, IsDatabaseMade}
pub use Rattle.rpm_commit.specs.laws.Words.{ChangeProgressOnLog, ChangeProgressOn, ChangeProgressOnStore, is_rebuilt}
pub use Rattle.rpm_commit.specs.Changing.{HasChanges, RowsFit}
pub use Rattle.rpm_commit.specs.laws.Words.{IsAllOrNone, IsLawfulAndSameOr}
pub use Rattle.rpm_effects.specs.Endings.{unless_starved, why_of_load, why_of_recover, why_of_halt}
pub use Rattle.rpm_commit.specs.Answers.{AnswersChange}
pub use Rattle.rpm_commit.specs.Lawful.{AreLawfulDatabases, HasUsableIndex, IsLawfulDatabase, MayBegin}
pub use Rattle.rpm_commit.specs.Limits.{LimitsBy, LogIs, MeetsFirst}
pub use Rattle.rpm_commit.specs.laws.Words.{command_limit, LogOn}
pub use Rattle.rpm_commit.specs.Reaches.{begun_store, LengthsOn, ReachesBy}
pub use Rattle.rpm_commit.specs.laws.Words.{HasStore, ReachesOn}
pub use Rattle.rpm_commit.specs.Run.{ran}
pub use Rattle.rpm_command.specs.Tasks.{task_parts, TaskParts}
pub use Rattle.rpm_commit.specs.Tasks.{changes_index, is_anew, needs_none, reads_shelf, task_course}
pub use Rattle.rpm_commit.specs.Working.{done_why, ended_as, TransactionEnding, exercise_ended, IsShut, OpensBy, OpensIn, UncommittedProgress, why_of}
pub use Rattle.rpm_commit.specs.Working.{WorkBy, WorkOnStore}
pub use Rattle.rpm_commit.specs.Working.{Work}
pub use Rattle.rpm_commit.specs.Stages.{FoundStore, OpensOn, Streams, WorksOn}
pub use Rattle.rpm_db.specs.Changes.{apply, Change, Says}
pub use Rattle.rpm_db.specs.Database.{Database, holds, IsIndexed, IsNext, IsPaged, Keeps}
pub use Rattle.rpm_db.specs.Database.{store_of}
pub use Rattle.rpm_db.specs.Lawful.{HasRows, IsLawful, Remade}
pub use Rattle.rpm_db.specs.Openings.{must_rebuild, units_needed}
pub use Rattle.rpm_db.proofs.laws.PackageLaws.{is_there}
pub use Rattle.rpm_db.specs.Room.{next_store, RoomBecomes}
pub use Rattle.rpm_db.proofs.laws.RoomLaws.{made_paged}
pub use Rattle.rpm_db.specs.laws.Parts.{rows_in}
unfoldable pub use Rattle.rpm_db.specs.Rows.{rows}
pub use Rattle.rpm_db.proofs.laws.Running.{runs_none, runs_then}
pub use Rattle.rpm_db.specs.Runs.{SameLog}
pub use Rattle.rpm_db.specs.State.{Package, State, state}
unfoldable pub use Rattle.rpm_db.specs.State.{packages}
pub use Rattle.rpm_exercise.specs.Endings.{IsRefused, OnceBegun, HoldsAfterRebuild}
pub use Rattle.rpm_exercise.specs.Exercised.{exercise}
pub use Rattle.rpm_exercise.specs.Ready.{IsStop}
pub use Rattle.rpm_exercise.specs.declared.running.ExerciseFault.{ExerciseFault}
pub use Rattle.rpm_exercise.specs.declared.running.ExerciseFault.TheVariants.{Halted, NotEmpty}
pub use Rattle.rpm_group.specs.laws.Below.{KeepsBelow}
pub use Rattle.rpm_group.specs.Transactions.{BeforeOrAfter}
pub use Rattle.rpm_group.specs.Layers.{laid_files}
pub use Rattle.rpm_group.specs.Loads.{IsSound}
pub use Rattle.rpm_group.specs.Overlay.{overlay_below, overlay_held, overlay_read, overlay_starved}
pub use Rattle.rpm_group.specs.Crashes.{KeepsLog, RecoverSays, ReopensAs, ReopensAsOneOf}
pub use Rattle.rpm_group.proofs.laws.KeptLogs.{recovered_kept}
pub use Rattle.rpm_hindex.specs.Rows.{Row}
pub use Rattle.rpm_hindex.specs.Sizes.{doubled_buckets, units_for}
pub use Rattle.rpm_outside.specs.Buffered.{inner}
pub use Rattle.rpm_outside.specs.Causes.{HasCauseAt, Rose}
pub use Rattle.rpm_outside.specs.Files.{Files, Units, with_file}
pub use Rattle.rpm_outside.specs.Frame.{images, CrashLeaves, OnlyReadsFile}
pub use Rattle.rpm_outside.specs.Logs.{log_state, LogState, reopened_files, without_log}
pub use Rattle.rpm_outside.specs.Shelves.{bytes_at}
pub use Rattle.rpm_outside.specs.declared.buffered.Buffered.{Buffered}
pub use Rattle.rpm_outside.specs.declared.disk.File.{File}
pub use Rattle.rpm_outside.specs.declared.disk.File.TheVariants.{Log}
pub use Rattle.rpm_outside.proofs.laws.Moments.{leaves_then, leaves_weaker, started}
pub use Rattle.rpm_pkgdb.specs.Reaches.{store_end}
pub use Rattle.rpm_pkgdb.specs.Store.{in_file, Store, store}
pub use Rattle.rpm_pkgdb.specs.Written.{with_spare}
pub use Rattle.rpm_pkgdb.specs.declared.slot.Damage.{Damage}
pub use Rattle.rpm_effects.specs.Classes.{is_done, is_done_or_fault, is_halt, is_not_empty, is_of_lawful, is_of_streams, IsOfOpening, IsUncommitted}
pub use Rattle.rpm_outside.specs.Frame.{DiskFault}
pub use Rattle.rpm_db.specs.Frame.{Runs, state_in}
pub use Rattle.rpm_effects.specs.Shown.{shown_outputs}
pub use Rattle.rpm_effects.specs.declared.answer.Why.{Why}
pub use Rattle.std.specs.Option.{option_or}
pub use Rattle.std.specs.Ordering.{nat_cmp}
