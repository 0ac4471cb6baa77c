-- The words of proofs, from one place.
pub use Rattle.rpm_effects.specs.Progress.{outputs, Outputs, Through, Anywhere}
pub use Rattle.rpm_effects.specs.Steps.{Bearer, bearer, Course, idle, is_out, Step, whole_step, bearer_of}
pub use Rattle.rpm_effects.specs.declared.tally.Halt.{Halt}
pub use Rattle.rpm_db.specs.Database.{packages_cost, packages_cost_to, Database, is_indexed}
pub use Rattle.rpm_db.specs.Database.{store_of}
pub use Rattle.rpm_db.proofs.laws.FromOne.{from_one}
pub use Rattle.rpm_db.proofs.laws.PackageLaws.{cost_some, cost_up}
pub use Rattle.rpm_db.specs.State.{above, Bad, Good, Package}
unfoldable pub use Rattle.rpm_db.specs.State.{packages}
pub use Rattle.rpm_file.specs.Answers.{IsFileFault}
pub use Rattle.rpm_file.specs.Package.{HeaderAndRest, package_header}
pub use Rattle.rpm_file.specs.declared.fault.FileFault.{FileFault}
pub use Rattle.rpm_header.specs.Header.{Header}
unfoldable pub use Rattle.rpm_header.specs.Header.{header}
pub use Rattle.rpm_header.specs.declared.form.HeaderFault.{HeaderFault}
pub use Rattle.rpm_outside.specs.Browses.{bytes_left}
pub use Rattle.rpm_outside.specs.Buffered.{inner}
pub use Rattle.rpm_outside.specs.Files.{Files, Units}
pub use Rattle.rpm_outside.specs.Shelves.{bytes_at, Paths}
pub use Rattle.rpm_outside.specs.declared.disk.File.TheVariants.{Idx, Pkg}
pub use Rattle.rpm_outside.proofs.laws.Looking.{looks_at_from, looks_more, looks_then}
pub use Rattle.rpm_pkgdb.specs.Store.{Store}
pub use Rattle.rpm_effects.specs.Answers.{PartIs, PartProgress, StepIs, CommandProgress}
pub use Rattle.rpm_select.specs.Picks.{is_some_of}
pub use Rattle.rpm_effects.specs.Endings.{why_of_halt}
pub use Rattle.rpm_outside.specs.Frame.{OnlyReads}
pub use Rattle.rpm_db.specs.Frame.{packages_in}
pub use Rattle.rpm_print.specs.Frame.{OnlyReadsIndexed, pkg_read}
pub use Rattle.rpm_effects.specs.Shown.{shown_outputs}
pub use Rattle.rpm_print.specs.Printed.{packages_part, printed_step, step_by}
pub use Rattle.rpm_print.specs.Reads.{reach_sum, reached_by, ReadsIn, ReadsOf}
pub use Rattle.rpm_print.proofs.laws.Reached.{reach_before}
pub use Rattle.rpm_effects.specs.Portions.{before_others, Portion}
pub use Rattle.rpm_effects.proofs.laws.Parts.{is_bad}
pub use Rattle.rpm_effects.specs.declared.answer.Why.{Why}
pub use Rattle.rpm_qfeval.specs.Meaning.{meaning}
pub use Rattle.rpm_qfparse.specs.Tree.{Tree}
pub use Rattle.rpm_query.specs.PackageFiles.{file_part}
pub use Rattle.rpm_query.specs.inner.PackageFiles.{read_part}
pub use Rattle.rpm_query.specs.Queries.{answered_part, argument_part, lent, question_of}
pub use Rattle.rpm_query.proofs.laws.Answering.{picked_by}
unfoldable pub use Rattle.rpm_query.specs.Queries.{missing_part, picked_packages}
pub use Rattle.rpm_query.specs.Reach.{IsOfChain}
unfoldable pub use Rattle.rpm_query.specs.Reach.{argument_reach}
pub use Rattle.rpm_query.specs.declared.printing.PrintedPackages.{PrintedPackages}
pub use Rattle.rpm_select.specs.laws.Parts.{has_header_key, has_key_in, is_candidate}
unfoldable pub use Rattle.rpm_select.specs.Candidates.{candidates, keys_asked}
pub use Rattle.rpm_select.specs.Picks.{entry_in, NextNumberIs}
pub use Rattle.rpm_select.specs.Reach.{Everything, HasIndexRows, reach, Reach, reach_all, reach_to, Serves, These}
pub use Rattle.rpm_select.specs.laws.Unindexed.{unindexed_reach}
pub use Rattle.rpm_select.specs.Recents.{Recalls}
pub use Rattle.rpm_select.specs.Selections.{is_picked, takes_bad}
pub use Rattle.rpm_select.specs.laws.Parts.{takes_read}
unfoldable pub use Rattle.rpm_select.specs.Selections.{picks, takes_header}
pub use Rattle.rpm_select.specs.declared.picked.PickFault.{PickFault}
pub use Rattle.rpm_select.specs.declared.recent.Recent.{Recent}
pub use Rattle.rpm_select.specs.declared.selection.Selection.{Selection}
pub use Rattle.rpm_select.proofs.laws.Costing.{reach_some}
pub use Rattle.rpm_select.proofs.laws.Rising.{next_picked, picks_from_one}
pub use Rattle.rpm_select.specs.laws.Unindexed.{not_asked}
pub use Rattle.rpm_tags.specs.declared.kind.Kind.{Kind}
pub use Rattle.rpm_words.specs.Words.{word_at}
pub use Rattle.rpm_words.specs.declared.switch.Chosen.{Chosen}
pub use Rattle.std.specs.List.{filter, list_any}
pub use Rattle.std.specs.Ordering.{nat_cmp}
