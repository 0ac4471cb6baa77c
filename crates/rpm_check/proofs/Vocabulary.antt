-- The words of proofs, from one place.
pub use Rattle.rpm_check.specs.Answers.{OnlyReadsBoth, is_broken_index, is_index_fault, IsBroken, IsFaultOfSome}
pub use Rattle.rpm_check.specs.Edges.{graph_of, HasEdgesOf, is_edge_between}
pub use Rattle.rpm_check.specs.inner.Parts.{edges_from, is_good, needs_of}
unfoldable pub use Rattle.rpm_check.specs.Edges.{all_edges, givers, good_numbers, is_edge}
pub use Rattle.rpm_check.specs.Frame.{CheckQuestion}
pub use Rattle.rpm_db.specs.Asked.{IsAskable}
pub use Rattle.rpm_db.specs.Frame.{IsStoreKept, IsIndexKept}
pub use Rattle.rpm_select.specs.Providing.{answers, gives}
pub use Rattle.rpm_select.specs.laws.Parts.{is_file_of, provided_ranges}
pub use Rattle.rpm_check.specs.Unmet.{is_above_pair, IsNextUnmet, lacks, package_meets, requirements}
pub use Rattle.rpm_check.specs.inner.Parts.{read_gives}
pub use Rattle.rpm_check.specs.Unmet.{unmet_in}
pub use Rattle.rpm_check.specs.inner.Parts.{unmet_of}
pub use Rattle.rpm_check.specs.inner.Parts.{unmet_read}
unfoldable pub use Rattle.rpm_check.specs.Unmet.{is_met, unmet, unmet_after}
pub use Rattle.rpm_check.specs.declared.faults.CheckFault.{CheckFault}
pub use Rattle.rpm_check.specs.declared.faults.CheckFault.TheVariants.{DiskFault, NoMemory}
pub use Rattle.rpm_check.specs.declared.list.Unmet.{Unmet}
pub use Rattle.rpm_check.specs.declared.memo.Requirement.{Requirement}
pub use Rattle.rpm_check.specs.declared.nodes.Node.{Node}
pub use Rattle.rpm_check.specs.declared.offers.Offer.{Offer}
pub use Rattle.rpm_check.specs.inner.Ends.{BeginsBelow, BeginsUpTo, good_if, good_of, is_end, is_good_at, needs_at}
pub use Rattle.rpm_check.specs.inner.Faults.{check_fault}
pub use Rattle.rpm_check.specs.inner.GiverMemos.{KnowsGivers, KnowsGiversOn}
pub use Rattle.rpm_check.specs.inner.Headers.{header_at, header_read}
pub use Rattle.rpm_check.specs.inner.Kinds.{offer_order}
pub use Rattle.rpm_check.specs.inner.Memos.{requirement_order, Knows, KnowsOn, need_of}
pub use Rattle.rpm_select.specs.Needs.{needed_in}
pub use Rattle.rpm_check.specs.inner.Nodes.{AreNodesRising, edges_of, node_numbers}
pub use Rattle.rpm_check.specs.inner.Offers.{AreOffered, given_ranges, hits, is_hit, is_named}
pub use Rattle.rpm_check.specs.inner.Offers.{offer_in, offered_ranges, range_in, range_of}
pub use Rattle.rpm_check.specs.inner.Offers.{ranges_beside, ranges_given, ranges_in, ranges_read, any_version_of}
unfoldable pub use Rattle.rpm_check.specs.inner.Offers.{IsOffered}
pub use Rattle.rpm_select.specs.Picks.{is_some_of}
pub use Rattle.rpm_check.specs.inner.Rounds.{IsFirst, unmet_at}
pub use Rattle.rpm_check.specs.inner.Runs.{is_of_standing, IsRunOf}
pub use Rattle.rpm_db.proofs.laws.Above.{all_above_zero, both_true, is_below, next_above, none_below, none_is, nothing_above}
pub use Rattle.rpm_db.specs.Database.{Database, holds, IsNext, Keeps, KeepsIndex}
pub use Rattle.rpm_db.specs.Database.{store_of}
pub use Rattle.rpm_db.proofs.laws.FromOne.{from_one}
pub use Rattle.rpm_db.proofs.laws.Own.{header-own}
pub use Rattle.rpm_db.proofs.laws.PackageLaws.{is_there}
pub use Rattle.rpm_db.specs.State.{above, Bad, Good, Package, package_of, packages}
pub use Rattle.rpm_db.specs.laws.Parts.{read_as}
pub use Rattle.rpm_graph.specs.Networks.{edge, HasEdge, IsEdgeBefore, IsNumberRising, Joins, Network}
pub use Rattle.rpm_graph.specs.declared.graph.Edge.{Edge}
pub use Rattle.rpm_header.specs.Header.{Header, header}
pub use Rattle.rpm_header.specs.declared.form.HeaderFault.{HeaderFault}
pub use Rattle.rpm_outside.specs.Files.{Files, Units}
pub use Rattle.rpm_outside.specs.Looks.{OnlyReads, OnlyReadsFile}
pub use Rattle.rpm_outside.specs.declared.disk.File.TheVariants.{Idx, Pkg}
pub use Rattle.rpm_select.specs.Candidates.{keys_asked}
pub use Rattle.rpm_select.specs.Frame.{AsksIndex, AsksPackages}
pub use Rattle.rpm_select.specs.Picks.{entry_in, NextIs, NextNumberIs, number_in}
pub use Rattle.rpm_select.specs.Reach.{HasIndexRows, is_in, IsFaultOfOne, Reach, Serves}
pub use Rattle.rpm_select.specs.Recents.{Recalls}
pub use Rattle.rpm_select.specs.Selections.{is_picked}
pub use Rattle.rpm_select.specs.laws.Parts.{takes_read}
unfoldable pub use Rattle.rpm_select.specs.Selections.{picks, takes_header}
pub use Rattle.rpm_select.specs.declared.picked.Picked.{Picked}
pub use Rattle.rpm_select.specs.declared.picked.PickFault.{PickFault}
pub use Rattle.rpm_select.specs.declared.selection.Selection.{Selection}
pub use Rattle.rpm_select.specs.declared.selection.Selection.TheVariants.{Provides}
pub use Rattle.rpm_select.proofs.laws.Among.{among, not_among}
pub use Rattle.rpm_select.proofs.laws.Keyed.{or_cases, or_left, or_right}
pub use Rattle.rpm_select.proofs.laws.Rising.{AreAbove, next_picked, picks_from_one, Rises, rises, same_members}
pub use Rattle.rpm_tags.specs.declared.numbers.TheConstants.{REQUIREFLAGS, REQUIRENAME, REQUIREVERSION}
pub use Rattle.rpm_tags.specs.Value.{numbers_in, texts_in}
pub use Rattle.rpm_tags.specs.Wanted.{beside, has_file, list_or_empty, Need}
unfoldable pub use Rattle.rpm_tags.specs.Wanted.{dependencies}
pub use Rattle.rpm_tags.specs.declared.kind.Kind.{Kind}
pub use Rattle.rpm_tags.specs.declared.needed.Tags.{Tags}
pub use Rattle.rpm_version.specs.Capability.{CapabilityParts}
unfoldable pub use Rattle.rpm_version.specs.Range.{is_open, overlaps}
pub use Rattle.std.specs.BTreeMap.{BTreeMap, get, is_at, Updates}
pub use Rattle.std.specs.Cmp.{unsigned_tied}
pub use Rattle.std.specs.Cmp.Lexicographic.{slice_cmp}
pub use Rattle.std.specs.FinMap.{entries, FinMap}
pub use Rattle.std.specs.FinMap.Entries.{below_all}
pub use Rattle.std.specs.List.{All, AllByRecursion, filter, flat_map, list_any}
pub use Rattle.std.specs.List.Sorted.{IsBinarySearchResult, IsPermutation, IsSorted, IsStrictlyIncreasing}
pub use Rattle.std.specs.Option.{option_copied}
pub use Rattle.std.specs.Ordering.{is_eq, is_lt, nat_cmp, ordering_then}
pub use Rattle.std.specs.Str.{bytes_eq}
pub use Rattle.std.specs.declared.alloc.Global.{Global}
pub use Rattle.std.specs.declared.cmp.Ordering.{Ordering}
pub use Rattle.std.specs.declared.cmp.Ordering.TheVariants.{Equal, Greater, Less}
