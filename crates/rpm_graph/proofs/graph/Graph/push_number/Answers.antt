use Rattle.std.proofs.Common.{◌<◌, sym, subst}
use Rattle.rpm_graph.proofs.Vocabulary.{All, Network}
use Rattle.rpm_graph.proofs.Pushes.{network_with_number}
use Rattle.rpm_graph.proofs.graph.Graph.push_number.Goals as goal

pub invariant_of-self-2 : goal.invariant_of-self-2
invariant_of-self-2 c =
    rw c.in_ok-push.ensures.items (network_with_number c.self.inside.numbers.items c.self.inside.edges.items c.args.number c.self.invariant
    (subst (λ (g : Network). All (λ n. n < c.args.number) g.numbers) (sym c.self.view_is) c.requires))
