-- The words of clauses, from one place.
pub use Rattle.rpm_effects.specs.Hands.{Hand, EndHands, HaltHands, PutsOut}
pub use Rattle.rpm_effects.specs.Steps.{bearer, whole_step}
pub use Rattle.rpm_check.specs.Unmet.{requirements}
pub use Rattle.rpm_select.specs.Needs.{needed_in}
pub use Rattle.rpm_db.specs.Database.{package_cost, packages_cost}
pub use Rattle.rpm_db.specs.Database.{store_of}
pub use Rattle.rpm_db.specs.Verdicts.{verdict}
pub use Rattle.rpm_header.specs.Header.{header}
pub use Rattle.rpm_outside.specs.declared.disk.File.TheVariants.{Pkg}
pub use Rattle.rpm_qfeval.specs.Numbers.{has}
pub use Rattle.rpm_select.specs.Reach.{Everything}
pub use Rattle.rpm_version.specs.Range.{is_open}
pub use Rattle.std.specs.List.{flat_map}
pub use Rattle.std.specs.Option.{option_map}
pub use Rattle.rpm_effects.specs.Progress.{Anywhere}
pub use Rattle.rpm_effects.specs.Answers.{PartIs, PartProgress, CommandProgress}
pub use Rattle.rpm_effects.specs.Classes.{IsOfPrint, is_foreign, is_of_opening}
pub use Rattle.rpm_outside.specs.Frame.{DiskFault, OnlyReads}
pub use Rattle.rpm_select.specs.Frame.{HasKeptRows}
pub use Rattle.rpm_db.specs.Asked.{IsAskable}
pub use Rattle.rpm_print.specs.Frame.{OnlyReadsIndexed}
pub use Rattle.rpm_effects.specs.Shown.{ErrTakes, OutTakes, shown_outputs}
pub use Rattle.rpm_print.specs.Frame.{ReadsBy, TellsErr, TellsOut, pkg_read}
pub use Rattle.rpm_db.specs.Frame.{packages_in}
pub use Rattle.rpm_print.specs.Reads.{reached_by}
pub use Rattle.rpm_effects.specs.Portions.{fails, together}
pub use Rattle.rpm_report.specs.FileReport.{check_files, conflict_step, label_told, told_steps}
pub use Rattle.rpm_report.specs.Reports.{unsound, verdict_part, verify}
pub use Rattle.rpm_report.specs.Requirements.{HaltsOfSome, IsPackageRead, OrderPartIs, bad_parts, class_steps}
pub use Rattle.rpm_report.specs.inner.Lines.{bad_at, line_of}
pub use Rattle.rpm_report.specs.Requirements.{halt_of_check, label_step}
pub use Rattle.rpm_report.specs.Requirements.{range_text, unmet_lines, unmet_step, unsatisfied_part}
pub use Rattle.rpm_db.specs.State.{header_or}
