use Rattle.rpm_report.proofs.Vocabulary.{bad_part, entries, inner, packages, store_of}
use Rattle.std.proofs.Common.{ℕ, ◌-◌, ◌^◌, Bool, List}
use Rattle.std.specs.Prelude.{IsTrue}
use Rattle.rpm_report.proofs.SoFar.{SoFar}
use Rattle.rpm_print.proofs.laws.Verified.{ReportSoFar}
use Rattle.rpm_report.proofs.unreadable.tell_each_bad.Given as goal

abbrev pub invariant-loop-next : goal.invariant-loop-next
invariant-loop-next g l = record {
  far : SoFar g.D.Disk g.E.Sink l.initial.disk l.disk l.initial.err l.err;
  told : IsTrue g.D.Disk.tells → (ot : Bool) (o : List ℕ)
      → ReportSoFar ot g.E.Sink.tells bad_part (entries (packages (g.D.Disk.files l.initial.disk).pkg (store_of l.db))) l.number l.fails
      o (g.E.Sink.taken (inner l.initial.err)) o (g.E.Sink.taken (inner l.err));
}

abbrev pub decreases-loop-next : goal.decreases-loop-next
decreases-loop-next g l = 2 ^ 32 - l.number
