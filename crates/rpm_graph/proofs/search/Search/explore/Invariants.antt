use Rattle.std.proofs.Common.{◌≤◌, get_or}
use Rattle.rpm_graph.proofs.Vocabulary.{KeepsSeen, row_lists, Searches, work}
use Rattle.rpm_graph.proofs.search.Search.explore.Given as goal

abbrev pub invariant-loop-last : goal.invariant-loop-last
invariant-loop-last l = record {
  searched : Searches (row_lists l.rows) l.self;
  keeps : KeepsSeen l.fn.self.ranks.items l.self.ranks.items;
  seen : 1 ≤ get_or l.self.ranks.items l.place 0;
}

abbrev pub decreases-loop-last : goal.decreases-loop-last
decreases-loop-last l = work (row_lists l.rows) l.self
