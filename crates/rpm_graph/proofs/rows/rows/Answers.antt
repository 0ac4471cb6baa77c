use Rattle.std.proofs.Common.{◌≡◌, ◌<◌, length, get_or, drop, sym, ap, ◌∙◌, arith}
use Rattle.std.proofs.lemmas.List.{take_at}
use Rattle.rpm_graph.proofs.Vocabulary.{edge_at, row_lists, with_link}
use Rattle.rpm_graph.proofs.Rowing.{have_more}
use Rattle.rpm_graph.proofs.rows.rows.Goals as goal

pub loop-edge-preserved : goal.loop-edge-preserved
loop-edge-preserved c =
    let g = c.args.graph.now in
    let k = c.loop-edge.edge-index in
    let rows = c.loop-edge.rows.items in
    let next = c.push_link.new.rows in
    let v = c.place_of.result in
    let w = c.place_of-in-loop-edge.result in
    let numbers = c.numbers-numbers.ensures.numbers in
    let edges = c.edges-edges.ensures in
    let is : row_lists next ≡ with_link (row_lists rows) v w = c.in_ok-push_link.ensures ∙ ap (λ l. with_link (row_lists l) v w) c.deref_mut.ensures.value in
    let long : length next ≡ c.loop-edge.rows.len = c.push_link.auto.rows ∙ c.deref_mut.ensures.len in
    let in_edges : k < length g.edges = omega (arith, ap length edges, c.loop-edge-test.true) in
    let from = c.place_of.ensures.there in
    let to = c.place_of-in-loop-edge.ensures.there in
    rw (take_at next (drop (length next) rows) c.loop-edge.rows.len long, is) (have_more g k (row_lists rows) c.loop-edge.invariant in_edges v w
    (omega (arith, c.place_of.ensures.inside, ap length numbers))
    (ap (λ l. get_or l v 0) (sym numbers) ∙ from ∙ ap (λ l. (edge_at l k).from) edges)
    (omega (arith, c.place_of-in-loop-edge.ensures.inside, ap length numbers))
    (ap (λ l. get_or l w 0) (sym numbers) ∙ to ∙ ap (λ l. (edge_at l k).to) edges))
