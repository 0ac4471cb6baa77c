-- The words of proofs, from one place.
pub use Rattle.rpm_effects.specs.Progress.{Outputs, outputs, Through, Anywhere, StopWithin}
pub use Rattle.rpm_effects.specs.Hands.{Hand}
pub use Rattle.rpm_effects.specs.Steps.{bearer, Bearer, err_bytes, out_bytes, Step, ToOut, whole_step}
pub use Rattle.rpm_effects.specs.declared.tally.Halt.{Halt}
pub use Rattle.rpm_check.specs.Edges.{graph_of}
pub use Rattle.rpm_check.specs.Frame.{OnlyReadsBoth}
pub use Rattle.rpm_check.specs.Unmet.{requirements, unmet}
pub use Rattle.rpm_check.specs.declared.faults.CheckFault.{CheckFault}
pub use Rattle.rpm_check.specs.declared.list.Unmet.{Unmet}
pub use Rattle.rpm_select.specs.Needs.{needed_in}
pub use Rattle.rpm_db.specs.Database.{packages_cost_to, Database}
pub use Rattle.rpm_db.specs.Database.{store_of}
pub use Rattle.rpm_db.proofs.laws.Own.{header-own}
pub use Rattle.rpm_db.proofs.laws.PackageLaws.{cost_more, cost_some}
pub use Rattle.rpm_db.specs.State.{Bad, Good, header_or, Package, package_of}
pub use Rattle.rpm_db.specs.laws.Parts.{read_as}
unfoldable pub use Rattle.rpm_db.specs.State.{packages}
pub use Rattle.rpm_filecheck.specs.Conflicts.{bad, conflicts, IsReport, Report}
pub use Rattle.rpm_filecheck.specs.Owners.{Conflict}
pub use Rattle.rpm_graph.specs.Networks.{Network}
pub use Rattle.rpm_graph.specs.Orders.{IsOrder}
pub use Rattle.rpm_header.specs.Header.{Header}
unfoldable pub use Rattle.rpm_header.specs.Header.{header}
pub use Rattle.rpm_header.specs.declared.form.HeaderFault.{HeaderFault}
pub use Rattle.rpm_outside.specs.Buffered.{inner}
pub use Rattle.rpm_outside.specs.Causes.{Rose}
pub use Rattle.rpm_outside.specs.Files.{Files}
pub use Rattle.rpm_outside.specs.Sinks.{GainIs}
pub use Rattle.rpm_outside.specs.declared.buffered.Buffered.{Buffered}
pub use Rattle.rpm_outside.specs.declared.disk.File.TheVariants.{Pkg}
pub use Rattle.rpm_outside.proofs.laws.Looking.{looks_more, looks_none, looks_then}
pub use Rattle.rpm_effects.specs.Answers.{PartIs, PartProgress, StepIs, CommandProgress}
pub use Rattle.rpm_select.specs.Picks.{is_some_of}
pub use Rattle.rpm_outside.specs.Frame.{DiskFault, OnlyReads}
pub use Rattle.rpm_db.specs.Frame.{packages_in}
pub use Rattle.rpm_print.specs.Frame.{OnlyReadsIndexed, pkg_read, TellsOut}
pub use Rattle.rpm_effects.specs.Shown.{OutTakes, shown_outputs}
pub use Rattle.rpm_print.specs.Printed.{bad_step, printed_step}
pub use Rattle.rpm_print.specs.Reads.{reached_by}
pub use Rattle.rpm_effects.specs.Portions.{fails, Portion, together}
pub use Rattle.rpm_qfeval.specs.Meaning.{meaning, text_or_none}
unfoldable pub use Rattle.rpm_qfeval.specs.Meaning.{bytes, sizes}
pub use Rattle.rpm_qfeval.specs.Numbers.{depflags, has, bit_letters}
pub use Rattle.rpm_qfeval.specs.Padded.{padded_text}
unfoldable pub use Rattle.rpm_qfparse.specs.Format.{format, reading}
unfoldable pub use Rattle.rpm_qfparse.specs.Moves.{condition, move_of}
unfoldable pub use Rattle.rpm_qfparse.specs.Tag.{after_number, number_of, formatter_table, tag_part}
pub use Rattle.rpm_qfparse.specs.Tree.{End, Tagged, Tree}
pub use Rattle.rpm_qfparse.specs.declared.tree.Role.TheVariants.{Element}
pub use Rattle.rpm_qfparse.specs.declared.tree.Show.TheVariants.{Plain}
pub use Rattle.rpm_qfparse.specs.declared.tree.TagPart.{TagPart}
pub use Rattle.rpm_report.specs.FileReport.{check_files, conflict_step, label_told, report_steps, told_steps}
pub use Rattle.rpm_report.specs.Labels.{header_label, package_text}
unfoldable pub use Rattle.rpm_report.specs.Labels.{label_tree}
pub use Rattle.rpm_report.specs.Requirements.{portion_behind, class_steps, halt_of_check, HaltsOfSome, label_step}
pub use Rattle.rpm_report.specs.Requirements.{unmet_lines, unmet_step, unmet_text, why_of_report}
pub use Rattle.rpm_report.specs.inner.Lines.{bad_part, line_of}
pub use Rattle.rpm_report.proofs.Steps.{classes_part, conflict_line, cycle_line, entry_verdict, label_text, read_text, unmet_part, unread_step}
unfoldable pub use Rattle.rpm_report.specs.Requirements.{unmet_line}
pub use Rattle.rpm_select.specs.Reach.{Everything}
pub use Rattle.rpm_tags.specs.declared.numbers.TheConstants.{ARCH, NAME, RELEASE, VERSION}
pub use Rattle.rpm_tags.specs.Value.{as_text, label, value}
pub use Rattle.rpm_tags.specs.Wanted.{Need}
unfoldable pub use Rattle.rpm_tags.specs.Value.{first_text}
pub use Rattle.rpm_tags.specs.declared.tag.Tag.TheVariants.{Nvra}
pub use Rattle.std.specs.FinMap.{entries, FinMap, get}
pub use Rattle.std.specs.List.{All, concat, flat_map, prefix_len}
pub use Rattle.std.specs.Option.{option_and_then}
pub use Rattle.std.specs.Ordering.{nat_cmp}
pub use Rattle.std.specs.declared.alloc.Global.{Global}
