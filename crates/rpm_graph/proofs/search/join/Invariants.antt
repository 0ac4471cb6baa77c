use Rattle.std.proofs.Common.{vec_len}
use Rattle.rpm_graph.proofs.Vocabulary.{IsFrontOfRoots}
use Rattle.rpm_graph.proofs.search.join.Given as goal

abbrev pub invariant-loop-root : goal.invariant-loop-root
invariant-loop-root l = IsFrontOfRoots l.fn.roots.items l.rank l.roots.items

abbrev pub decreases-loop-root : goal.decreases-loop-root
decreases-loop-root l = vec_len l.roots
