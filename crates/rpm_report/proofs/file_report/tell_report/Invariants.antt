use Rattle.std.proofs.Common.{◌++◌, map, drop}
use Rattle.rpm_report.proofs.Vocabulary.{conflict_step, label_told, told_steps, unread_step}
use Rattle.rpm_report.proofs.Lines.{Written}
use Rattle.rpm_report.proofs.file_report.tell_report.Given as goal

abbrev pub invariant-loop-number : goal.invariant-loop-number
invariant-loop-number g l =
    Written g.O.Sink g.E.Sink (told_steps l.report)
    (map unread_step (drop l.number-index l.bad) ++ map (conflict_step (label_told l.report)) l.report.conflicts) l.out l.initial.err l.out l.err

abbrev pub invariant-loop-i : goal.invariant-loop-i
invariant-loop-i g l =
    Written g.O.Sink g.E.Sink (told_steps l.report) (map (conflict_step (label_told l.report)) (drop l.i l.report.conflicts)) l.fn.out l.fn.err l.out l.err
