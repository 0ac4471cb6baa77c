use Rattle.std.proofs.Common.{◌≡◌, ◌++◌, drop}
use Rattle.rpm_filecheck.proofs.Vocabulary.{conflicts_with}
use Rattle.rpm_filecheck.proofs.conflict.push_with.Given as goal

abbrev pub invariant-loop-b : goal.invariant-loop-b
invariant-loop-b l =
    l.conflicts.items ++ conflicts_with l.path l.a (drop l.b-index l.others) ≡ l.fn.conflicts.items ++ conflicts_with l.path l.a l.others
