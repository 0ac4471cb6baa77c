use Rattle.rpm_report.proofs.Vocabulary.{packages_cost_to, entries, entry_verdict, inner, OnlyReads, packages, Pkg, store_of}
use Rattle.std.proofs.Common.{ℕ, ◌-◌, ◌^◌, ◌≤◌, Bool, List}
use Rattle.std.specs.Prelude.{IsTrue}
use Rattle.rpm_print.proofs.laws.Verified.{ReportSoFar}
use Rattle.rpm_report.proofs.verdicts.report.Given as goal

abbrev pub invariant-loop-next : goal.invariant-loop-next
invariant-loop-next g l = record {
  looks : OnlyReads g.D.Disk Pkg (packages_cost_to l.number l.db) l.initial.disk l.disk;
  disk : g.D.Disk.faults l.initial.disk ≤ g.D.Disk.faults l.disk;
  out : g.O.Sink.faults (inner l.initial.out) ≤ g.O.Sink.faults (inner l.out);
  out_rest : g.O.Sink.follows (inner l.initial.out) (inner l.out);
  told : IsTrue g.D.Disk.tells → (et : Bool) (e : List ℕ)
      → ReportSoFar g.O.Sink.tells et (entry_verdict (g.D.Disk.files l.initial.disk).pkg (store_of l.db)) (entries (packages (g.D.Disk.files l.initial.disk).pkg
      (store_of l.db)))
      l.number l.fails (g.O.Sink.taken (inner l.initial.out)) e (g.O.Sink.taken (inner l.out)) e;
}

abbrev pub decreases-loop-next : goal.decreases-loop-next
decreases-loop-next g l = 2 ^ 32 - l.number
