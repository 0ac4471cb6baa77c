use Rattle.std.proofs.Common.{◌≡◌, ◌++◌, take, map}
use Rattle.rpm_graph.proofs.Vocabulary.{link}
use Rattle.rpm_graph.proofs.search.put_row.Given as goal

abbrev pub invariant-loop-to : goal.invariant-loop-to
invariant-loop-to l = l.pending.items ≡ l.fn.pending.items ++ map (λ to. link l.place to) (take l.to-index l.row)
