use Rattle.std.proofs.Common.{◌+◌, ◌-◌, ◌^◌, ◌≤◌}
use Rattle.std.specs.Prelude.{IsTrue}
use Rattle.rpm_query.proofs.Vocabulary.{packages_cost_to, inner, OnlyReads, packages_in, picks, Pkg, pkg_read, reach_to, Recalls, Serves, step_by}
use Rattle.rpm_query.proofs.Nexts.{PrintedTo}
use Rattle.rpm_query.proofs.printing.print_above.Given as goal

abbrev pub invariant-loop-next : goal.invariant-loop-next
invariant-loop-next g l = record {
  later : l.after ≤ l.number;
  looks : OnlyReads g.D.Disk Pkg (packages_cost_to l.number l.db - packages_cost_to l.after l.db) l.initial.disk l.disk;
  reads : pkg_read g.D.Disk l.disk + reach_to l.after l.picker l.db
      ≤ pkg_read g.D.Disk l.initial.disk + reach_to l.number l.picker l.db;
  recalls : IsTrue g.D.Disk.tells → Recalls (packages_in g.D.Disk l.initial.disk l.db) l.initial.recent
      → Recalls (packages_in g.D.Disk l.initial.disk l.db) l.recent;
  disk : g.D.Disk.faults l.initial.disk ≤ g.D.Disk.faults l.disk;
  out : g.O.Sink.faults (inner l.initial.out) ≤ g.O.Sink.faults (inner l.out);
  err : g.E.Sink.faults (inner l.initial.err) ≤ g.E.Sink.faults (inner l.err);
  out_rest : g.O.Sink.follows (inner l.initial.out) (inner l.out);
  err_rest : g.E.Sink.follows (inner l.initial.err) (inner l.err);
  printed : IsTrue g.D.Disk.tells → Serves l.picker (packages_in g.D.Disk l.initial.disk l.db) l.selection
      → Recalls (packages_in g.D.Disk l.initial.disk l.db) l.initial.recent
      → PrintedTo (step_by l.request l.format) (picks (packages_in g.D.Disk l.initial.disk l.db) l.selection) l.after l.number l.some l.fails g.O.Sink.tells
      g.E.Sink.tells (g.O.Sink.taken (inner l.initial.out)) (g.E.Sink.taken (inner l.initial.err)) (g.O.Sink.taken (inner l.out))
      (g.E.Sink.taken (inner l.err));
}

abbrev pub decreases-loop-next : goal.decreases-loop-next
decreases-loop-next g l = 2 ^ 32 - l.number
