use Rattle.rpm_check.proofs.Vocabulary.{HasIndexRows, is_above_pair, KnowsOn, lacks, packages, requirements, store_of, unmet_in}
use Rattle.std.proofs.Common.{◌≡◌, ◌+◌, length}
use Rattle.std.specs.Prelude.{IsTrue, filter}
use Rattle.rpm_check.proofs.next.next_lacking.Given as goal
use Rattle.rpm_check.proofs.Asking.{Asking}

abbrev pub invariant-loop-place : goal.invariant-loop-place
invariant-loop-place g l = record {
  asking : Asking g.D.Disk l.initial.disk l.disk l.db;
  places : l.place + length l.left ≡ length (requirements l.view);
  remembers : KnowsOn g.D.Disk l.initial.disk l.db l.memo;
  told : IsTrue g.D.Disk.tells → HasIndexRows l.db (g.D.Disk.files l.initial.disk).pkg (g.D.Disk.files l.initial.disk).idx
      → filter (is_above_pair l.n l.i) (unmet_in (lacks (packages (g.D.Disk.files l.initial.disk).pkg (store_of l.db))) l.number (requirements l.view) 0)
      ≡ filter (is_above_pair l.n l.i) (unmet_in (lacks (packages (g.D.Disk.files l.initial.disk).pkg (store_of l.db))) l.number l.left l.place);
}
