-- The words of proofs, from one place.
pub use Rattle.rpm_graph.specs.Networks.{AreRising, edge, edge_at, HasEdge, IsEdgeBefore, IsNetwork, IsNumberRising, IsWalk, Joins, Leads, Network}
pub use Rattle.rpm_graph.specs.Orders.{EdgesGoBack, IsAvailable, IsClass, IsNextClass, IsOrder, Lists, StandOnce, StandsAt}
pub use Rattle.rpm_graph.specs.declared.graph.Edge.{Edge}
pub use Rattle.rpm_graph.specs.declared.listing.Listing.{Listing}
pub use Rattle.rpm_graph.specs.declared.search.Link.{Link}
pub use Rattle.rpm_graph.specs.declared.search.Search.{Search}
pub use Rattle.rpm_graph.specs.inner.Listings.{AreFalling, AreLeast, ArePlaced, IsBegun, IsFirstUnlisted, IsLeastReady, IsListedNow, IsListing, IsReadyOrWaits}
pub use Rattle.rpm_graph.specs.inner.Listings.{IsListable, IsUnderway, listed_at, unlisted_count}
pub use Rattle.rpm_graph.specs.inner.Rows.{AreLeastNumbers, GainEnds, HaveEdges, HaveEnds, HaveMembers, least, with_link}
pub use Rattle.rpm_graph.specs.inner.Searches.{AreWithin, Follows, IsEdge, IsFrontOfRoots, IsLastRoot, IsLowered, IsMarked, IsNoHigher, IsOnPath}
pub use Rattle.rpm_graph.specs.inner.Searches.{IsSearch, IsSplit, KeepsSeen}
pub use Rattle.rpm_graph.specs.inner.Searches.{link, link_at, NoneWaits, row_lists, Searches, unseen, unseen_count, work, work_left}
pub use Rattle.std.specs.BTreeMap.{is_at}
pub use Rattle.std.specs.BTreeMap.Range.{IsLtBy}
pub use Rattle.std.specs.BTreeSet.{BTreeSet, contains, Updates}
pub use Rattle.std.specs.Cmp.{IsTotalOrder, nat_cmp_total, on_total, then_total}
pub use Rattle.std.specs.List.{All, Contains}
pub use Rattle.std.specs.Ordering.{nat_cmp, ordering_then}
pub use Rattle.std.specs.Vec.{with_item, with_items}
pub use Rattle.std.specs.declared.cmp.Ordering.{Ordering}
pub use Rattle.std.specs.declared.cmp.Ordering.TheVariants.{Equal, Greater, Less}
