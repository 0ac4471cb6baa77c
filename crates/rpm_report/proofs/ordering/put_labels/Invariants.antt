use Rattle.rpm_report.proofs.Vocabulary.{Files, label_step, packages, store_of}
use Rattle.std.proofs.Common.{map, drop}
use Rattle.rpm_report.proofs.Going.{Going}
use Rattle.rpm_report.proofs.ordering.put_labels.Given as goal

abbrev pub invariant-loop-number : goal.invariant-loop-number
invariant-loop-number g l =
    Going g.D.Disk g.O.Sink (λ (f : Files). map (label_step (packages f.pkg (store_of l.db)) l.indent) l.class)
    (λ (f : Files). map (label_step (packages f.pkg (store_of l.db)) l.indent) (drop l.number-index l.class))
    l.initial.disk l.disk l.initial.out l.out
