-- The words of clauses, from one place.
pub use Rattle.std.specs.FinMap.{FinMap}
pub use Rattle.std.specs.List.{flat_map}
pub use Rattle.std.specs.List.Sorted.{IsPermutation, IsSorted, IsStrictlyIncreasing}
pub use Rattle.std.specs.Ordering.{nat_cmp}
pub use Rattle.rpm_db.specs.State.{Package}
pub use Rattle.rpm_graph.specs.Networks.{IsEdgeBefore, edge}
pub use Rattle.rpm_select.specs.Picks.{entry_in}
pub use Rattle.rpm_select.specs.Reach.{is_in}
pub use Rattle.rpm_select.specs.Recents.{Recalls}
pub use Rattle.rpm_select.specs.Selections.{picks}
pub use Rattle.rpm_check.specs.Edges.{HasEdgesOf, all_edges, givers, good_numbers, graph_of}
pub use Rattle.rpm_check.specs.inner.Parts.{edges_from}
pub use Rattle.rpm_check.specs.Frame.{CheckQuestion}
pub use Rattle.rpm_select.specs.Frame.{HasKeptRows}
pub use Rattle.rpm_db.specs.Asked.{IsAskable}
pub use Rattle.rpm_db.specs.Frame.{packages_in}
pub use Rattle.rpm_check.specs.Unmet.{IsNextUnmet, is_above_pair, is_met, is_passed_over, lacks, requirements, unmet}
pub use Rattle.rpm_check.specs.Unmet.{unmet_after, unmet_in}
pub use Rattle.rpm_check.specs.declared.faults.CheckFault.TheVariants.{NoMemory}
pub use Rattle.rpm_check.specs.inner.Ends.{BeginsBelow, BeginsUpTo, good_if, is_end, is_good_at, needs_at}
pub use Rattle.rpm_check.specs.inner.Faults.{check_fault}
pub use Rattle.rpm_check.specs.inner.GiverMemos.{KnowsGivers, KnowsGiversOn}
pub use Rattle.rpm_check.specs.inner.Headers.{header_at}
pub use Rattle.rpm_check.specs.inner.Kinds.{digit, offer_kind, offer_order}
pub use Rattle.rpm_check.specs.inner.Memos.{Knows, KnowsOn, need_of}
pub use Rattle.rpm_select.specs.Needs.{needed_in}
pub use Rattle.rpm_check.specs.inner.Nodes.{AreNodesRising, edges_of, node_numbers}
pub use Rattle.rpm_check.specs.inner.Offers.{AreOffered, given_ranges, hits, is_hit, KnowsNames, KnowsSources, offer_in}
pub use Rattle.rpm_check.specs.inner.Offers.{range_in, ranges_beside}
pub use Rattle.rpm_select.specs.Picks.{is_some_of}
pub use Rattle.rpm_check.specs.inner.Rounds.{IsFirst, unmet_at}
pub use Rattle.rpm_check.specs.inner.Runs.{is_of_standing, IsRunOf}
pub use Rattle.rpm_version.specs.Evr.{evr, evr_order}
