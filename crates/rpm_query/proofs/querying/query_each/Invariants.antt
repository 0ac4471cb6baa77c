use Rattle.rpm_query.proofs.Vocabulary.{argument_part, argument_reach, inner, is_indexed, packages_in, OnlyReadsIndexed, pkg_read, reach_before, Recalls, word_at}
use Rattle.std.proofs.Common.{◌+◌, ◌≤◌, map}
use Rattle.std.specs.Prelude.{IsTrue}
use Rattle.rpm_select.specs.Frame.{HasKeptRows}
use Rattle.rpm_query.proofs.Turns.{Turned}
use Rattle.rpm_query.proofs.querying.query_each.Given as goal

abbrev pub invariant-loop-k : goal.invariant-loop-k
invariant-loop-k g l = record {
  looks : OnlyReadsIndexed g.D.Disk (is_indexed l.db) l.initial.disk l.disk;
  reads : IsTrue g.D.Disk.tells → HasKeptRows g.D.Disk l.initial.disk l.db → pkg_read g.D.Disk l.disk ≤ pkg_read g.D.Disk l.initial.disk
      + reach_before (map (argument_reach (is_indexed l.db) (packages_in g.D.Disk l.initial.disk l.db) l.ask.chosen)
      (map (word_at l.words) l.ask.arguments)) l.db l.k;
  recalls : IsTrue g.D.Disk.tells → Recalls (packages_in g.D.Disk l.initial.disk l.db) l.recent;
  disk : g.D.Disk.faults l.initial.disk ≤ g.D.Disk.faults l.disk;
  out : g.O.Sink.faults (inner l.initial.out) ≤ g.O.Sink.faults (inner l.out);
  err : g.E.Sink.faults (inner l.initial.err) ≤ g.E.Sink.faults (inner l.err);
  out_rest : g.O.Sink.follows (inner l.initial.out) (inner l.out);
  err_rest : g.E.Sink.follows (inner l.initial.err) (inner l.err);
  few : l.failed ≤ l.k;
  turned : IsTrue g.D.Disk.tells → HasKeptRows g.D.Disk l.initial.disk l.db → Turned g.O.Sink.tells g.E.Sink.tells
      (argument_part l.format (packages_in g.D.Disk l.initial.disk l.db) l.ask.chosen l.ask.after) (word_at l.words) l.ask.arguments l.k l.failed
      (g.O.Sink.taken (inner l.initial.out)) (g.E.Sink.taken (inner l.initial.err)) (g.O.Sink.taken (inner l.out)) (g.E.Sink.taken (inner l.err));
}
