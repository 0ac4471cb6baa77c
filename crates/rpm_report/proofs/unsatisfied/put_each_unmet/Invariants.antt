use Rattle.rpm_report.proofs.Vocabulary.{Files, packages, store_of, unmet_step}
use Rattle.std.proofs.Common.{map, length}
use Rattle.rpm_report.proofs.Going.{Going}
use Rattle.rpm_report.proofs.unsatisfied.put_each_unmet.Given as goal

abbrev pub invariant-loop-first : goal.invariant-loop-first
invariant-loop-first g l =
    Going g.D.Disk g.O.Sink (λ (f : Files). map (unmet_step (packages f.pkg (store_of l.db))) l.list)
    (λ (f : Files). map (unmet_step (packages f.pkg (store_of l.db))) l.left) l.initial.disk l.disk l.initial.out l.out

abbrev pub decreases-loop-first : goal.decreases-loop-first
decreases-loop-first g l = length l.left
