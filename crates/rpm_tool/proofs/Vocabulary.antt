-- The words of proofs, from one place.
pub use Rattle.rpm_effects.specs.Progress.{Outputs, outputs, Through, Anywhere}
pub use Rattle.rpm_effects.specs.Steps.{Bearer, Course}
pub use Rattle.rpm_check.specs.Edges.{graph_of}
pub use Rattle.rpm_commit.specs.Changing.{EmptyBy}
pub use Rattle.rpm_effects.specs.Endings.{unless_starved, why_of_recover}
pub use Rattle.rpm_commit.specs.Lawful.{AreLawfulDatabases, HasUsableIndex, KeepsPackages, IsLawfulAndSame}
pub use Rattle.rpm_command.specs.Tasks.{asked_task, task_parts, TaskParts}
pub use Rattle.rpm_commit.specs.Tasks.{needs_none, reads_shelf, task_course}
pub use Rattle.rpm_commit.specs.Stages.{Streams}
pub use Rattle.rpm_db.specs.Database.{Database, is_blank_database, is_indexed, without_index}
pub use Rattle.rpm_db.specs.Database.{store_of}
pub use Rattle.rpm_db.specs.Lawful.{AreLawful, IsLawful, IsLawfulStill, Remade}
pub use Rattle.rpm_db.specs.Openings.{IsOpened, must_rebuild, units_needed}
pub use Rattle.rpm_db.proofs.laws.RoomLaws.{blank_unpaged, kept_current, made_paged}
pub use Rattle.rpm_db.specs.State.{above, Package}
unfoldable pub use Rattle.rpm_db.specs.State.{packages}
pub use Rattle.rpm_group.specs.Layers.{laid_files}
pub use Rattle.rpm_group.specs.Loads.{IsSound}
pub use Rattle.rpm_group.specs.Crashes.{KeepsLog, RecoverKeeps, RecoverSays, ReopensAsOneOf}
pub use Rattle.rpm_group.specs.declared.recovery.RecoverFault.{RecoverFault}
pub use Rattle.rpm_outside.specs.Buffered.{inner}
pub use Rattle.rpm_outside.specs.Causes.{HasCauseAt, Rose}
pub use Rattle.rpm_outside.specs.Changes.{AreDurable}
pub use Rattle.rpm_outside.specs.Files.{Files, Units}
pub use Rattle.rpm_outside.specs.Frame.{images}
pub use Rattle.rpm_outside.specs.Logs.{Closed, log_state, LogState, Malformed, reopened_files, without_log}
pub use Rattle.rpm_outside.specs.SinkFrame.{Writes}
pub use Rattle.rpm_outside.specs.declared.buffered.Buffered.{Buffered}
pub use Rattle.rpm_outside.specs.declared.disk.File.TheVariants.{Idx, Pkg}
pub use Rattle.rpm_outside.proofs.laws.Looking.{looks_then}
pub use Rattle.rpm_outside.proofs.laws.Moments.{leaves_then, leaves_weaker, started}
pub use Rattle.rpm_pkgdb.specs.Store.{Store, store}
pub use Rattle.rpm_pkgdb.specs.declared.slot.Damage.{Damage}
pub use Rattle.rpm_effects.specs.Answers.{ClosingEnding, RefusalIs, CommandProgress}
pub use Rattle.rpm_effects.proofs.laws.Closing.{Closes}
pub use Rattle.rpm_command.specs.Answers.{Undone}
pub use Rattle.rpm_command.specs.Asked.{always_keyed, by_key, request_of, is_query, needs_no_index, of_files}
pub use Rattle.rpm_command.proofs.laws.Asking.{changes_in, command_and_format, format_in, is_package, opens_index, task_in}
unfoldable pub use Rattle.rpm_command.specs.Asked.{asks, asks_change, asks_format}
pub use Rattle.rpm_effects.specs.Classes.{is_done, is_done_or_outside, is_foreign, is_of_opening, is_of_streams, is_of_words, is_refusal}
unfoldable pub use Rattle.rpm_print.specs.Closing.{closing}
pub use Rattle.rpm_print.specs.Frame.{OnlyReadsPackages, OnlyReadsIndexed, pkg_read}
pub use Rattle.rpm_db.specs.Frame.{packages_in, Runs}
pub use Rattle.rpm_effects.specs.Shown.{outs, shown_outputs}
pub use Rattle.rpm_print.specs.Printed.{step_of}
pub use Rattle.rpm_print.specs.Reads.{reach_sum, reached_by}
pub use Rattle.rpm_effects.specs.Portions.{RisesFrom}
pub use Rattle.rpm_command.specs.Texts.{text_of}
pub use Rattle.rpm_effects.specs.declared.answer.Why.{Why}
pub use Rattle.rpm_command.specs.declared.reading.Request.{Request}
pub use Rattle.rpm_qfparse.specs.Tree.{Tree}
pub use Rattle.rpm_qfparse.specs.declared.fault.FormatFault.{FormatFault}
pub use Rattle.rpm_query.specs.Queries.{answered_part, AreQuestions, argument_part, export, lent, query, query_of, question_of}
pub use Rattle.rpm_query.proofs.laws.Answering.{is_question, picked_by}
unfoldable pub use Rattle.rpm_query.specs.Queries.{missing_part, picked_packages}
unfoldable pub use Rattle.rpm_query.specs.Reach.{argument_reach}
pub use Rattle.rpm_report.specs.FileReport.{check_files}
pub use Rattle.rpm_report.specs.Reports.{verify}
pub use Rattle.rpm_report.specs.Requirements.{order_part, unsatisfied_part}
pub use Rattle.rpm_select.specs.Reach.{HasIndexRows, Reach}
pub use Rattle.rpm_select.specs.Selections.{is_picked}
unfoldable pub use Rattle.rpm_select.specs.Selections.{picks}
pub use Rattle.rpm_select.specs.declared.selection.Selection.{Selection}
pub use Rattle.rpm_select.specs.laws.Unindexed.{no_index_rows}
pub use Rattle.rpm_commit.specs.laws.Words.{LogAnswer, StoreAnswer, StoreAnswerBy}
pub use Rattle.rpm_tool.specs.Requests.{asked_reaches, blocks_cost, RequestProgress, PlainAnswer, query_cost}
pub use Rattle.rpm_tool.specs.inner.Words.{CauseIs, FullByUnits, has_index, keyed_to, KeyedProgress, OnUsable, PlainProgress, read_to, UnlessFull}
pub use Rattle.rpm_tool.specs.Keyed.{BadIs, IndexFullIs, HasRoom, IsAtRest, IsUsable}
pub use Rattle.rpm_tool.specs.Keyed.{IsUsableDatabase, keyed_cost, KeyedAnswer}
pub use Rattle.rpm_tool.specs.Theorem.{Answers, AnswersChange, AnswersKeyed, AnswersOfFiles, AnswersPlain, AnswersText, AnswersCommand, ran, Run}
pub use Rattle.rpm_tool.specs.Theorem.{setting_at, Setting}
pub use Rattle.rpm_version.specs.Capability.{capability, CapabilityParts}
pub use Rattle.rpm_version.specs.declared.capability.BadCapability.{BadCapability}
pub use Rattle.rpm_words.specs.Ask.{AskParts, IsFit}
unfoldable pub use Rattle.rpm_words.specs.Ask.{ask}
pub use Rattle.rpm_words.specs.Number.{number}
pub use Rattle.rpm_words.specs.Words.{word_at}
pub use Rattle.rpm_words.specs.declared.ask.Mode.{Mode}
pub use Rattle.rpm_words.specs.declared.fault.WordsFault.{WordsFault}
pub use Rattle.rpm_words.specs.declared.switch.Chosen.{Chosen}
pub use Rattle.rpm_words.proofs.laws.Given.{fit_arguments}
pub use Rattle.std.specs.List.{AllByRecursion, cons_option}
pub use Rattle.std.specs.Option.{is_none, option_map}
pub use Rattle.std.specs.Ordering.{nat_cmp}
pub use Rattle.std.specs.Result.{is_err}
