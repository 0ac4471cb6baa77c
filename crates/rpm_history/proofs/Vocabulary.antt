-- The words of proofs, from one place.
pub use Rattle.rpm_change.specs.Adding.{as_installed}
pub use Rattle.rpm_change.specs.laws.Courses.{add_file, erase_one, erasure, import_next, put_found, put_installed, replacement}
pub use Rattle.rpm_change.specs.Importing.{import_from, import_list, imported_header, place_fails}
pub use Rattle.rpm_commit.specs.Tasks.{max_headers}
pub use Rattle.rpm_file.specs.List.{BlobAndRest, list_head}
pub use Rattle.rpm_change.specs.Rebuilding.{drop_each}
pub use Rattle.rpm_effects.specs.Progress.{Outputs}
pub use Rattle.rpm_effects.specs.Steps.{apply_all, Course, idle, in_turn}
pub use Rattle.rpm_change.specs.declared.add.Placing.{Placing}
pub use Rattle.rpm_commit.specs.Changing.{after, AllRowsFit, ChangesWith, HasState, LeavesState, RowsFit}
pub use Rattle.rpm_commit.specs.laws.Words.{IsLawfulAndSameOr}
pub use Rattle.rpm_commit.specs.Lawful.{AreLawfulDatabases, IsLawfulDatabase, IsLawfulAndSame}
pub use Rattle.rpm_commit.specs.Run.{Run}
pub use Rattle.rpm_command.specs.Tasks.{Adding, asked_task, Erasing, Exercising, Importing, Making, Rebuilding, Replacing, TaskParts}
pub use Rattle.rpm_commit.specs.Tasks.{changes_index, is_anew, reads_shelf, task_course}
pub use Rattle.rpm_db.specs.Changes.{Add, apply, Change, Erase, greatest_in, next, Put, Says}
pub use Rattle.rpm_db.specs.State.{above, Bad, Good, Package, state, State}
pub use Rattle.rpm_exercise.specs.Rounds.{made_blob, round_changes, round_turn}
unfoldable pub use Rattle.rpm_exercise.specs.Rounds.{changes}
pub use Rattle.rpm_file.specs.Package.{package_header}
pub use Rattle.rpm_file.specs.declared.fault.FileFault.{FileFault}
pub use Rattle.rpm_file.specs.declared.fault.ListFault.{ListFault}
pub use Rattle.rpm_header.specs.Header.{Header}
unfoldable pub use Rattle.rpm_header.specs.Header.{header}
pub use Rattle.rpm_header.specs.declared.form.HeaderFault.{HeaderFault}
pub use Rattle.rpm_history.specs.Given.{given_in, given_on, IsAhead, numbers_given, RiseWithin}
pub use Rattle.rpm_history.specs.History.{AllStand, calls_of, course_of, Cuts, FromOneOf, LeadsByLines, Moves, RunCall, RepresentsState, TellsCalls, TellsLines}
pub use Rattle.rpm_history.specs.History.{uses_in, uses_shelf}
pub use Rattle.rpm_history.specs.Lines.{between, Between, InTurn, InTurnBefore, LineIs, LineStays, run_of, setting_of}
pub use Rattle.rpm_history.specs.declared.several.Line.{Line}
pub use Rattle.rpm_outside.specs.Files.{Files, Units}
pub use Rattle.rpm_outside.specs.Frame.{images, CrashLeaves}
pub use Rattle.rpm_outside.specs.Logs.{reopened_files}
pub use Rattle.rpm_outside.specs.Shelves.{bytes_at, Paths}
pub use Rattle.rpm_outside.proofs.laws.Moments.{leaves_then, leaves_weaker, started}
pub use Rattle.rpm_pkgdb.specs.Store.{store, Store}
pub use Rattle.rpm_pkgdb.specs.declared.slot.Damage.{Damage}
pub use Rattle.rpm_command.specs.Asked.{by_key, of_files}
unfoldable pub use Rattle.rpm_command.specs.Asked.{asks}
pub use Rattle.rpm_effects.specs.Classes.{is_done, is_done_or_fault}
pub use Rattle.rpm_print.specs.Frame.{OnlyReadsPackages}
pub use Rattle.rpm_effects.specs.declared.answer.Outcome.{Outcome}
pub use Rattle.rpm_effects.specs.declared.answer.Why.{Why}
pub use Rattle.rpm_qfparse.specs.Tree.{Tree}
pub use Rattle.rpm_tool.specs.Theorem.{AnswersCommand}
pub use Rattle.rpm_words.specs.Ask.{AskParts}
pub use Rattle.std.specs.Cmp.{unsigned_tied}
pub use Rattle.std.specs.FinMap.{FinMap}
pub use Rattle.std.specs.List.{AllByRecursion, flat_map, range_with_len}
pub use Rattle.std.specs.Ordering.{eq_by_cmp, nat_cmp}
pub use Rattle.std.specs.Vec.{vec_capacity, vec_len}
