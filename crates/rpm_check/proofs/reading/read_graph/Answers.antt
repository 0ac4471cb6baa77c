use Rattle.rpm_check.proofs.Vocabulary.{AreNodesRising, edges_of, flat_map, graph_of, HasEdgesOf, Network, Node, node_numbers, packages, store_of}
use Rattle.std.proofs.Common.{◌≡◌, ℕ, List, Ok, sym, ap, ◌∙◌, subst}
use Rattle.rpm_check.proofs.Asking.{asking_of, asks_ended, asks_failed, asks_memory}
use Rattle.rpm_check.proofs.Between.{has_edges}
use Rattle.rpm_check.proofs.reading.read_graph.Goals as goal

same_network : (g : Network) (h : Network) → g.numbers ≡ h.numbers → g.edges ≡ h.edges → g ≡ h
same_network g h numbers edges = λ i. record { numbers = numbers i; edges = edges i }

pub graph_of-requires : goal.graph_of-requires
graph_of-requires g c = record { rising = subst AreNodesRising (sym c.deref.ensures.value) c.in_ok-nodes.ensures.rising }

pub returns-clause-told : goal.returns-clause-told
returns-clause-told g c = λ told has.
    let all = packages (g.D.Disk.files c.args.disk.now).pkg (store_of c.args.db.now) in
    let nodes = c.in_ok-nodes.nodes.items in
    let done = c.in_ok-graph.ensures in
    let whole = c.deref.ensures.value in
    let are = c.in_ok-nodes.ensures.numbers told in
    same_network c.in_ok-graph.graph (graph_of all) (done.numbers ∙ ap node_numbers whole ∙ are)
    (done.edges ∙ ap (λ (vs : List Node). flat_map (edges_of (node_numbers vs)) vs) whole
    ∙ ap (λ (ns : List ℕ). flat_map (edges_of ns) nodes) are ∙ c.in_ok-nodes.ensures.told told has)

pub returns-clause-edges : goal.returns-clause-edges
returns-clause-edges g c = λ told has.
    let all = packages (g.D.Disk.files c.args.disk.now).pkg (store_of c.args.db.now) in
    subst (HasEdgesOf all) (sym (returns-clause-told g c told has)) (has_edges all)

pub returns-clause-asks : goal.returns-clause-asks
returns-clause-asks g c = asks_ended g.D.Disk (Ok _) (asking_of g.D.Disk c.in_ok-nodes.ensures.asks) tt

pub returns-in_err-graph-clause-asks : goal.returns-in_err-graph-clause-asks
returns-in_err-graph-clause-asks g c = asks_memory g.D.Disk (asking_of g.D.Disk c.in_ok-nodes.ensures.asks) c.from_residual-in_err-graph.ensures.1

pub returns-in_err-nodes-clause-asks : goal.returns-in_err-nodes-clause-asks
returns-in_err-nodes-clause-asks g c = asks_failed g.D.Disk c.in_err-nodes.ensures.asks c.from_residual.ensures.1
