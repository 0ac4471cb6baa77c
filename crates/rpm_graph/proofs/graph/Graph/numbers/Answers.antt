use Rattle.std.proofs.Common.{subst}
use Rattle.rpm_graph.proofs.Vocabulary.{IsNetwork, Network}
use Rattle.rpm_graph.proofs.graph.Graph.numbers.Goals as goal

pub returns-clause-network : goal.returns-clause-network
returns-clause-network c = subst (λ (g : Network). IsNetwork g) c.self.view_is c.self.invariant
