-- The words of clauses, from one place.
pub use Rattle.rpm_effects.specs.Steps.{bearer, idle, whole_step}
pub use Rattle.rpm_db.specs.Database.{packages_cost, packages_cost_to, is_indexed}
pub use Rattle.rpm_db.specs.State.{above}
pub use Rattle.rpm_file.specs.Package.{package_header}
pub use Rattle.rpm_outside.specs.Browses.{bytes_left}
pub use Rattle.rpm_outside.specs.declared.disk.File.TheVariants.{Pkg}
pub use Rattle.rpm_qfeval.specs.Meaning.{meaning}
pub use Rattle.rpm_select.specs.Reach.{Everything, Serves, reach_all, reach_to}
pub use Rattle.rpm_select.specs.laws.Unindexed.{unindexed_reach}
pub use Rattle.rpm_select.specs.Recents.{Recalls}
pub use Rattle.rpm_select.specs.Selections.{picks}
pub use Rattle.rpm_words.specs.Words.{word_at}
pub use Rattle.rpm_effects.specs.Progress.{Anywhere}
pub use Rattle.rpm_effects.specs.Answers.{PartIs, CommandProgress}
pub use Rattle.rpm_select.specs.Picks.{is_some_of}
pub use Rattle.rpm_command.specs.Asked.{prints_packages}
pub use Rattle.rpm_effects.specs.Classes.{IsOfPrint, IsOfRead, is_foreign, is_of_opening, is_of_words}
pub use Rattle.rpm_outside.specs.Frame.{DiskFault, OnlyReads}
pub use Rattle.rpm_select.specs.Frame.{HasKeptRows}
pub use Rattle.rpm_db.specs.Asked.{IsAskable}
pub use Rattle.rpm_print.specs.Frame.{OnlyReadsIndexed}
pub use Rattle.rpm_db.specs.Frame.{packages_in}
pub use Rattle.rpm_print.specs.Frame.{pkg_read}
pub use Rattle.rpm_effects.specs.Hands.{EndHands, HaltHands, PutsErr, PutsOut, ShelfFault}
pub use Rattle.rpm_effects.specs.Shown.{ErrTakes, OutTakes, shown_outputs}
pub use Rattle.rpm_print.specs.Printed.{packages_part, printed_step, step_by}
pub use Rattle.rpm_print.specs.Reads.{ReadsIn, ReadsOf, reach_sum, reached_by}
pub use Rattle.rpm_effects.specs.Portions.{before_others, parts_in_turn, nothing, told_portion}
pub use Rattle.rpm_query.specs.PackageFiles.{file_part, query_files}
pub use Rattle.rpm_query.specs.inner.PackageFiles.{read_part}
pub use Rattle.rpm_query.specs.Queries.{argument_part, fails_in, lent, missing_line_part, missing_part}
pub use Rattle.rpm_query.specs.Queries.{question_of}
pub use Rattle.rpm_query.specs.Reach.{IsOfChain, IsOfChains, argument_reach}
pub use Rattle.rpm_effects.specs.Lines.{answer_of_line}
