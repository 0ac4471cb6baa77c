use Rattle.std.proofs.Common.{◌≡◌, ◌++◌}
use Rattle.rpm_filecheck.proofs.Vocabulary.{conflicts_on, flat_map}
use Rattle.rpm_filecheck.proofs.owned.conflicts_in.Given as goal

abbrev pub invariant-loop-path : goal.invariant-loop-path
invariant-loop-path l =
    l.conflicts.items ++ flat_map (λ e. conflicts_on e.0.items e.1) l.path-iterator ≡ flat_map (λ e. conflicts_on e.0.items e.1) l.paths.entries
