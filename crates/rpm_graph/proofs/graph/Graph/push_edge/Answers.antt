use Rattle.std.proofs.Common.{sym, subst}
use Rattle.rpm_graph.proofs.Vocabulary.{All, edge, IsEdgeBefore, Joins, Network}
use Rattle.rpm_graph.proofs.Pushes.{network_with_edge}
use Rattle.rpm_graph.proofs.graph.Graph.push_edge.Goals as goal

pub invariant_of-self-2 : goal.invariant_of-self-2
invariant_of-self-2 c =
    let e = edge c.args.from c.args.to in
    rw c.in_ok-push.ensures.items (network_with_edge c.self.inside.numbers.items c.self.inside.edges.items e c.self.invariant
    (subst (λ (g : Network). Joins g.numbers e) (sym c.self.view_is) c.requires.joins)
    (subst (λ (g : Network). All (λ a. IsEdgeBefore a e) g.edges) (sym c.self.view_is) c.requires.behind))
