use Rattle.rpm_check.proofs.Vocabulary.{HasIndexRows, KnowsOn, lacks, packages, store_of, unmet}
use Rattle.std.proofs.Common.{◌≡◌, ◌-◌, ◌^◌, ◌++◌}
use Rattle.std.specs.Prelude.{IsTrue}
use Rattle.rpm_check.proofs.Rounding.{unmet_above}
use Rattle.rpm_check.proofs.report.unmet.Given as goal
use Rattle.rpm_check.proofs.Asking.{Asking}

abbrev pub invariant-loop-next : goal.invariant-loop-next
invariant-loop-next g l = record {
  asking : Asking g.D.Disk l.initial.disk l.disk l.db;
  remembers : KnowsOn g.D.Disk l.initial.disk l.db l.memo;
  told : IsTrue g.D.Disk.tells → HasIndexRows l.db (g.D.Disk.files l.initial.disk).pkg (g.D.Disk.files l.initial.disk).idx
      → l.found.items ++ unmet_above (packages (g.D.Disk.files l.initial.disk).pkg (store_of l.db))
      (lacks (packages (g.D.Disk.files l.initial.disk).pkg (store_of l.db))) l.passed
      ≡ unmet (packages (g.D.Disk.files l.initial.disk).pkg (store_of l.db));
}

abbrev pub decreases-loop-next : goal.decreases-loop-next
decreases-loop-next g l = 2 ^ 32 - l.passed
