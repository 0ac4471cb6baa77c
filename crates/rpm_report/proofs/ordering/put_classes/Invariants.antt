use Rattle.rpm_report.proofs.Vocabulary.{class_steps, Files, flat_map, packages, store_of}
use Rattle.std.proofs.Common.{drop}
use Rattle.rpm_report.proofs.Going.{Going}
use Rattle.rpm_report.proofs.ordering.put_classes.Given as goal

abbrev pub invariant-loop-k : goal.invariant-loop-k
invariant-loop-k g l =
    Going g.D.Disk g.O.Sink (λ (f : Files). flat_map (class_steps (packages f.pkg (store_of l.db))) l.list)
    (λ (f : Files). flat_map (class_steps (packages f.pkg (store_of l.db))) (drop l.k l.list)) l.initial.disk l.disk l.initial.out l.out
