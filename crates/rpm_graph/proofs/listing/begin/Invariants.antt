use Rattle.std.proofs.Common.{◌≡◌, ◌<◌, ℕ, false, length, replicate}
use Rattle.rpm_graph.proofs.Vocabulary.{IsReadyOrWaits, IsUnderway, row_lists}
use Rattle.rpm_graph.proofs.listing.begin.Given as goal

abbrev pub invariant-loop-class : goal.invariant-loop-class
invariant-loop-class l = record {
  underway : IsUnderway (row_lists l.ends) l.leasts l.listing;
  listed : l.listing.listed.items ≡ replicate (length l.ends) false;
  placed : (c : ℕ) → c < l.class → IsReadyOrWaits l.leasts l.listing c;
}
