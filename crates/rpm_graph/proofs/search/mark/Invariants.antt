use Rattle.std.proofs.Common.{take}
use Rattle.rpm_graph.proofs.Vocabulary.{IsMarked}
use Rattle.rpm_graph.proofs.search.mark.Given as goal

abbrev pub invariant-loop-place : goal.invariant-loop-place
invariant-loop-place l = IsMarked l.fn.ranks (take l.place-index l.places) l.rank l.ranks
