use Rattle.std.proofs.Common.{◌≡◌, ◌++◌, ◌∷◌, drop}
use Rattle.rpm_filecheck.proofs.Vocabulary.{conflicts_on}
use Rattle.rpm_filecheck.proofs.conflict.push_all.Given as goal

abbrev pub invariant-loop-i : goal.invariant-loop-i
invariant-loop-i l =
    l.conflicts.items ++ conflicts_on l.path (drop l.i l.others) ≡ l.fn.conflicts.items ++ conflicts_on l.path (l.first ∷ l.others)
