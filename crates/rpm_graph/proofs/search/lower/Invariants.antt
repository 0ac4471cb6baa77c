use Rattle.rpm_graph.proofs.Vocabulary.{IsLowered}
use Rattle.rpm_graph.proofs.search.lower.Given as goal

abbrev pub invariant-loop-rank : goal.invariant-loop-rank
invariant-loop-rank l = IsLowered l.initial.ranks l.base l.rank-index l.ranks
