-- The words of proofs, from one place.
pub use Rattle.rpm_db.proofs.laws.Above.{both_true, is_below, next_above, none_below}
pub use Rattle.rpm_db.specs.Answers.{key_chain}
pub use Rattle.rpm_db.specs.Database.{package_cost, packages_cost_to, Database, is_indexed, IsNext, Keeps, KeepsIndex}
pub use Rattle.rpm_db.specs.Frame.{IsStoreKept}
pub use Rattle.rpm_db.specs.Database.{store_of}
pub use Rattle.rpm_db.specs.Lawful.{HasRows}
pub use Rattle.rpm_db.proofs.laws.PackageLaws.{cost_more, cost_some, cost_up, is_there}
pub use Rattle.rpm_db.proofs.laws.RowLaws.{times-rows}
pub use Rattle.rpm_db.specs.Rows.{kinds, rows, rows_at}
pub use Rattle.rpm_db.specs.laws.Parts.{key_row, kind_rows, rows_read}
unfoldable pub use Rattle.rpm_db.specs.Rows.{header_rows}
pub use Rattle.rpm_db.specs.State.{above, Bad, Good, Package, packages}
pub use Rattle.rpm_db.specs.laws.Parts.{read_as}
pub use Rattle.rpm_header.specs.Header.{Header, header}
pub use Rattle.rpm_header.specs.declared.form.HeaderFault.{HeaderFault}
pub use Rattle.rpm_hindex.specs.Answers.{AreHits, hit_at, row_of_hit, same_hit}
unfoldable pub use Rattle.rpm_hindex.specs.Answers.{times_hit}
pub use Rattle.rpm_hindex.specs.Rows.{Row, same_row}
unfoldable pub use Rattle.rpm_hindex.specs.Rows.{times}
pub use Rattle.rpm_hindex.specs.declared.hits.Hit.{Hit}
pub use Rattle.rpm_outside.specs.Files.{Files, Units}
pub use Rattle.rpm_outside.specs.Looks.{OnlyReads, OnlyReadsFile}
pub use Rattle.rpm_outside.specs.declared.disk.File.TheVariants.{Idx, Pkg}
pub use Rattle.rpm_outside.proofs.laws.Looking.{looks_more, looks_none, looks_then}
pub use Rattle.rpm_select.specs.Candidates.{cut_text, has_keys, keys_asked, names_in}
pub use Rattle.rpm_select.specs.laws.Parts.{has_header_key, has_key_in, is_candidate}
unfoldable pub use Rattle.rpm_select.specs.Candidates.{candidates}
pub use Rattle.rpm_select.specs.Frame.{AsksPackages}
pub use Rattle.rpm_select.specs.Glob.{Byte, is_member, Piece, Question, Set, stands_for, Star, takes_byte}
unfoldable pub use Rattle.rpm_select.specs.Glob.{glob, piece_at, pieces_behind}
pub use Rattle.rpm_version.specs.Evr.{is_dash}
pub use Rattle.rpm_select.specs.Labels.{without_bytes}
pub use Rattle.rpm_select.specs.inner.Labelled.{is_dash_or_dot, with_name}
pub use Rattle.rpm_select.specs.Picks.{cost_after, entry_in, NextIs, NextNumberIs, number_in, package_in, ReadsOwn}
pub use Rattle.rpm_select.specs.Reach.{asks_index, Everything, HasChain, is_in, IsFaultOfOne, keys_cost}
pub use Rattle.rpm_select.specs.Reach.{Reach, reach, reach_after, reach_all, reach_to, reaches}
pub use Rattle.rpm_select.specs.Reach.{Serves, These}
pub use Rattle.rpm_select.specs.laws.Unindexed.{unindexed_reach}
pub use Rattle.rpm_select.specs.Recents.{IsHeld, IsOf, picks_at, Recalls}
pub use Rattle.rpm_select.specs.Selections.{is_text_among, is_elsewhere, is_picked}
pub use Rattle.rpm_select.specs.laws.Parts.{has_any, meets_capability, takes_read}
unfoldable pub use Rattle.rpm_select.specs.Selections.{picks, takes_header}
pub use Rattle.rpm_select.specs.declared.picked.PickFault.{PickFault}
pub use Rattle.rpm_select.specs.declared.picked.PickFault.TheVariants.{DiskFault}
pub use Rattle.rpm_select.specs.declared.picked.Picked.{Picked}
pub use Rattle.rpm_select.specs.declared.recent.Recent.{Recent}
pub use Rattle.rpm_select.specs.declared.selection.Selection.{Selection}
pub use Rattle.rpm_select.specs.declared.selection.Selection.TheVariants.{All, Conflicts, Directory, Group, Label, Number, Obsoletes, Path, Pattern, Provides}
pub use Rattle.rpm_select.specs.declared.selection.Selection.TheVariants.{Recommends, Requires, Tid, Trigger}
pub use Rattle.rpm_select.proofs.laws.Among.{among, not_among}
pub use Rattle.rpm_select.specs.inner.Asking.{NumbersOfKey, AreWith, has_row, is_byte, is_row_of}
pub use Rattle.rpm_select.proofs.Complete.{complete}
pub use Rattle.rpm_select.proofs.laws.Costing.{reach_more, reach_some, reach_up}
pub use Rattle.rpm_select.proofs.laws.Keyed.{or_cases, or_left, or_right}
pub use Rattle.rpm_select.specs.inner.Members.{first_has, first_len}
pub use Rattle.rpm_select.specs.inner.Pieces.{is_close, pieces, written_in}
pub use Rattle.rpm_select.specs.inner.Reaching.{reach_of}
pub use Rattle.rpm_select.proofs.laws.Rising.{AreAbove, commute, Rises, rises, same_members}
pub use Rattle.rpm_select.specs.inner.Single.{OneIs, OneOf}
pub use Rattle.rpm_select.specs.inner.Unclosed.{IsUnclosed}
pub use Rattle.rpm_select.specs.inner.Within.{upper_end, NextWithin}
pub use Rattle.rpm_tags.specs.Keys.{key_list, keys}
pub use Rattle.rpm_tags.specs.Kinds.{code_of}
pub use Rattle.rpm_tags.specs.declared.kind.Kind.{Kind}
pub use Rattle.std.specs.Cmp.{unsigned_tied}
pub use Rattle.std.specs.FinMap.{FinMap}
pub use Rattle.std.specs.FinMap.Entries.{below_all}
pub use Rattle.std.specs.List.{AllByRecursion, before_last, dedup, dedup_from, filter, flat_map, list_any, position_or_len, prefix_len, range_with_len}
pub use Rattle.std.specs.List.{suffix_len}
pub use Rattle.std.specs.List.Sorted.{IsStrictlyIncreasing}
pub use Rattle.std.specs.Ordering.{eq_by_cmp, is_lt, nat_cmp}
pub use Rattle.std.specs.Str.{bytes_eq}
