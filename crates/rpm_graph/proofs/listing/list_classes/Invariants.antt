use Rattle.std.proofs.Common.{◌≡◌, ℕ, true, length}
use Rattle.rpm_graph.proofs.Vocabulary.{AreLeast, ArePlaced, Contains, IsUnderway, listed_at, row_lists, unlisted_count}
use Rattle.rpm_graph.proofs.listing.list_classes.Given as goal

abbrev pub invariant-loop-first : goal.invariant-loop-first
invariant-loop-first l = record {
  underway : IsUnderway (row_lists l.ends) l.leasts l.listing;
  placed : ArePlaced (length l.ends) l.leasts l.listing;
  there : (c : ℕ) → Contains l.order.items c → listed_at l.listing.listed.items c ≡ true;
  back : (c : ℕ) → listed_at l.listing.listed.items c ≡ true → Contains l.order.items c;
  each : AreLeast (row_lists l.ends) l.leasts l.order.items;
}

abbrev pub decreases-loop-first : goal.decreases-loop-first
decreases-loop-first l = unlisted_count l.listing.listed.items
