-- The words of clauses, from one place.
pub use Rattle.std.specs.List.{list_any, position_or_len, suffix_len}
pub use Rattle.std.specs.List.Sorted.{IsStrictlyIncreasing}
pub use Rattle.std.specs.Option.{option_and_then, option_copied}
pub use Rattle.std.specs.Ordering.{nat_cmp}
pub use Rattle.rpm_db.specs.Database.{IsNext, package_cost, packages_cost_to}
pub use Rattle.rpm_db.specs.Frame.{IsStoreKept, IsIndexKept, packages_in}
pub use Rattle.rpm_db.specs.Lawful.{HasRows}
pub use Rattle.rpm_db.specs.Rows.{rows}
pub use Rattle.rpm_db.specs.State.{Bad, Package, above, package_of}
pub use Rattle.rpm_header.specs.Header.{header}
pub use Rattle.rpm_outside.specs.Frame.{DiskFault, OnlyReads, OnlyReadsFile}
pub use Rattle.rpm_outside.specs.declared.disk.File.TheVariants.{Idx, Pkg}
pub use Rattle.rpm_tags.specs.Keys.{number_key}
pub use Rattle.rpm_tags.specs.declared.numbers.TheConstants.{GROUP, INSTALLTID}
pub use Rattle.rpm_tags.specs.Value.{first_text, numbers_in, texts_in}
pub use Rattle.rpm_tags.specs.Wanted.{base_name, list_or_empty}
pub use Rattle.rpm_tags.specs.declared.kind.Kind.TheVariants.{Installtid, Providename}
pub use Rattle.rpm_select.specs.Candidates.{cut_text, keys_asked, names_in}
pub use Rattle.std.specs.Option.{option_to_list}
pub use Rattle.rpm_select.specs.laws.Parts.{path_keys}
pub use Rattle.rpm_select.specs.Frame.{AsksPackages, AsksIndex}
pub use Rattle.rpm_select.specs.Glob.{bracketed_set, glob, is_member, is_turned, member_count, piece_at}
pub use Rattle.rpm_select.specs.Glob.{takes_byte}
pub use Rattle.rpm_version.specs.Evr.{is_dash}
pub use Rattle.rpm_select.specs.Labels.{labels, matches, with_arch}
pub use Rattle.rpm_select.specs.inner.Labelled.{is_dash_or_dot, with_name, with_release}
pub use Rattle.rpm_select.specs.Labels.{with_version, without_bytes}
pub use Rattle.rpm_select.specs.Picks.{AnyIs, NextIs, NextNumberIs, ReadsOwn, cost_after, cost_next, is_broken}
pub use Rattle.rpm_select.specs.Picks.{is_of_index}
pub use Rattle.rpm_select.specs.Picks.{number_in, package_in}
pub use Rattle.rpm_select.specs.Reach.{IsBrokenChain, KeysCost, Serves, These, asks_index, is_in, reach, reach_after}
pub use Rattle.rpm_select.specs.Reach.{reach_next}
pub use Rattle.rpm_select.specs.Reach.{reach_to, reaches}
pub use Rattle.rpm_select.specs.laws.Unindexed.{unindexed_reach}
pub use Rattle.rpm_select.specs.Recents.{has_recent_number, IsHeld, IsOf, Recalls, picks_at}
pub use Rattle.rpm_select.specs.laws.Parts.{is_file_of}
pub use Rattle.rpm_select.specs.Selections.{is_text_among, is_elsewhere, is_picked}
pub use Rattle.rpm_select.specs.laws.Parts.{has_any, is_text, meets_capability}
pub use Rattle.rpm_select.specs.Selections.{needed_by}
pub use Rattle.rpm_select.specs.Selections.{picks, takes_bad, takes_header}
pub use Rattle.rpm_select.specs.declared.picked.PickFault.TheVariants.{NoMemory}
pub use Rattle.rpm_select.specs.inner.Asking.{NumbersOfKey, AreWith, is_byte, name_keys}
pub use Rattle.rpm_select.specs.inner.Indexed.{HasIndex}
pub use Rattle.rpm_select.specs.inner.Members.{first_has, first_len, is_member_range}
pub use Rattle.rpm_select.specs.Needs.{needed_in}
pub use Rattle.rpm_select.specs.inner.Pieces.{is_close, piece_in, pieces, written_in}
pub use Rattle.rpm_select.specs.inner.Reaching.{AreNumbersRising, reach_of}
pub use Rattle.rpm_select.specs.inner.Single.{IsNumbered, OneIs, OneOf, TakenIs}
pub use Rattle.rpm_select.specs.inner.Steps.{LeavesUnclosed, MoveIs}
pub use Rattle.rpm_select.specs.inner.Unclosed.{IsUnclosed}
pub use Rattle.rpm_select.specs.inner.Within.{NextWithin, upper_end}
