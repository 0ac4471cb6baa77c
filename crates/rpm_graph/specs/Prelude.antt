-- The words of clauses, from one place.
pub use Rattle.rpm_graph.specs.Networks.{IsEdgeBefore, IsNetwork, IsNumberRising, Joins, Network, edge}
pub use Rattle.rpm_graph.specs.Orders.{EdgesGoBack, IsOnlyOrder, IsOrder, StandOnce}
pub use Rattle.rpm_graph.specs.inner.Listings.{AreFalling, AreOthersPlaced, ArePlaced, IsBegun, IsFirstUnlisted}
pub use Rattle.rpm_graph.specs.inner.Listings.{IsListedNow, IsListing, IsReadyOrWaits, IsUnderway, listed_at}
pub use Rattle.rpm_graph.specs.inner.Rows.{AreLeastNumbers, GainEnds, HaveEdges, HaveEnds, HaveMembers, with_link}
pub use Rattle.rpm_graph.specs.inner.Searches.{AreWithin, IsEdge, IsClosed, IsFrontOfRoots, IsEntered, IsFreshSearch}
pub use Rattle.rpm_graph.specs.inner.Searches.{IsLastRoot}
pub use Rattle.rpm_graph.specs.inner.Searches.{IsLowered, IsMarked, IsSplit, KeepsSeen, NoneWaits, Searches, link}
pub use Rattle.rpm_graph.specs.inner.Searches.{link_at, row_lists, work}
