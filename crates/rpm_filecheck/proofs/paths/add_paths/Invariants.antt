use Rattle.std.proofs.Common.{◌≡◌}
use Rattle.rpm_filecheck.proofs.Vocabulary.{beside_facts, with_files}
use Rattle.rpm_filecheck.proofs.paths.add_paths.Given as goal

abbrev pub invariant-loop-path : goal.invariant-loop-path
invariant-loop-path l =
    with_files l.number (beside_facts l.path-iterator l.columns) l.owned ≡ with_files l.number (beside_facts l.fn.paths l.fn.columns) l.fn.owned
