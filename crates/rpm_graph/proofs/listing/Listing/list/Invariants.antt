use Rattle.std.proofs.Common.{◌≡◌, ◌≤◌, ◌<◌, ◌⊎◌, ℕ, true, false, length, get_or, set}
use Rattle.rpm_graph.proofs.Vocabulary.{IsReadyOrWaits, IsUnderway, listed_at, row_lists}
use Rattle.rpm_graph.proofs.listing.Listing.list.Given as goal

abbrev pub invariant-loop-other : goal.invariant-loop-other
invariant-loop-other l = record {
  underway : IsUnderway (row_lists l.ends) l.leasts l.self;
  listed : l.self.listed.items ≡ set l.fn.self.listed.items l.class true;
  placed : (c : ℕ) → c < length l.ends → listed_at l.self.listed.items c ≡ false
      → IsReadyOrWaits l.leasts l.self c ⊎ ((i : ℕ) × (l.other-index ≤ i) × (i < length l.other-items) × (get_or l.other-items i 0 ≡ c));
}
