use Rattle.std.proofs.Common.{◌≡◌, ◌≤◌, ◌<◌, ◌-◌, ℕ, true, length, get_or}
use Rattle.rpm_graph.proofs.Vocabulary.{listed_at}
use Rattle.rpm_graph.proofs.listing.first_unlisted.Given as goal

abbrev pub invariant-loop-at : goal.invariant-loop-at
invariant-loop-at l = record {
  behind : l.from ≤ l.at;
  within : l.at ≤ length l.row;
  before : (i : ℕ) → l.from ≤ i → i < l.at → listed_at l.listed (get_or l.row i 0) ≡ true;
}

abbrev pub decreases-loop-at : goal.decreases-loop-at
decreases-loop-at l = length l.row - l.at
