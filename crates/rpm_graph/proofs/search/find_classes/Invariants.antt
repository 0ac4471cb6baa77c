use Rattle.std.proofs.Common.{◌≡◌, ℕ, ◌<◌, ◌≤◌, [], get_or}
use Rattle.rpm_graph.proofs.Vocabulary.{row_lists, Searches}
use Rattle.rpm_graph.proofs.search.find_classes.Given as goal

abbrev pub invariant-loop-place : goal.invariant-loop-place
invariant-loop-place l = record {
  searched : Searches (row_lists l.rows) l.search;
  empty : l.search.path.items ≡ [];
  seen : (v : ℕ) → v < l.place → 1 ≤ get_or l.search.ranks.items v 0;
}
