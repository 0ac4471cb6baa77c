use Rattle.std.proofs.Common.{◌≡◌, take, drop}
use Rattle.rpm_report.proofs.Vocabulary.{requirements, unmet_lines}
use Rattle.rpm_report.proofs.unsatisfied.unmet_lines.Given as goal

abbrev pub invariant-loop-unmet : goal.invariant-loop-unmet
invariant-loop-unmet l = record {
  so_far : l.lines.items ≡ unmet_lines (take l.unmet-index l.row) l.number l.view;
  left : l.left.needs ≡ drop l.left.passed (requirements l.view);
}
