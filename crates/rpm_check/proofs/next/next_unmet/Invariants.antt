use Rattle.rpm_check.proofs.Vocabulary.{HasIndexRows, KnowsOn, packages, store_of, unmet_after}
use Rattle.std.proofs.Common.{◌≡◌, ◌-◌, ◌^◌}
use Rattle.std.specs.Prelude.{IsTrue}
use Rattle.rpm_check.proofs.Enumerating.{after_in}
use Rattle.rpm_check.proofs.Turning.{turns_above}
use Rattle.rpm_check.proofs.next.next_unmet.Given as goal
use Rattle.rpm_check.proofs.Asking.{Asking}

abbrev pub invariant-loop-number : goal.invariant-loop-number
invariant-loop-number g l = record {
  asking : Asking g.D.Disk l.initial.disk l.disk l.db;
  remembers : KnowsOn g.D.Disk l.initial.disk l.db l.memo;
  told : IsTrue g.D.Disk.tells → HasIndexRows l.db (g.D.Disk.files l.initial.disk).pkg (g.D.Disk.files l.initial.disk).idx
      → unmet_after (packages (g.D.Disk.files l.initial.disk).pkg (store_of l.db)) l.n l.i
      ≡ turns_above (packages (g.D.Disk.files l.initial.disk).pkg (store_of l.db))
      (after_in (packages (g.D.Disk.files l.initial.disk).pkg (store_of l.db)) l.n l.i) l.passed;
}

abbrev pub decreases-loop-number : goal.decreases-loop-number
decreases-loop-number g l = 2 ^ 32 - l.passed
