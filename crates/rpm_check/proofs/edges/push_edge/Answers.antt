use Rattle.std.proofs.Common.{sym, ◌∙◌}
use Rattle.rpm_check.proofs.Vocabulary.{is_end}
use Rattle.rpm_check.proofs.Joining.{joins_end, none_more, numbers_stay, edge_told, edges_left}
use Rattle.rpm_check.proofs.edges.push_edge.Goals as goal

pub push_edge-requires-clause-joins : goal.push_edge-requires-clause-joins
push_edge-requires-clause-joins c =
    joins_end c.args.graph.now.numbers c.args.from c.args.to c.requires.begins (sym c.is_end.ensures ∙ c.if-is_end.true)

pub returns-then-is_end-clause-numbers : goal.returns-then-is_end-clause-numbers
returns-then-is_end-clause-numbers c =
    numbers_stay c.args.graph.now c.push_edge.new.self c.args.from c.args.to (is_end c.args.graph.now.numbers c.args.from)
    (sym c.is_end.ensures ∙ c.if-is_end.true) c.push_edge.result c.push_edge.ensures.added c.push_edge.ensures.refused

pub returns-then-is_end-clause-told : goal.returns-then-is_end-clause-told
returns-then-is_end-clause-told c =
    edge_told c.args.graph.now c.push_edge.new.self c.args.from c.args.to (is_end c.args.graph.now.numbers c.args.from)
    (sym c.is_end.ensures ∙ c.if-is_end.true) c.push_edge.result c.push_edge.ensures.added

pub returns-then-is_end-clause-refused : goal.returns-then-is_end-clause-refused
returns-then-is_end-clause-refused c =
    edges_left c.args.graph.now c.push_edge.new.self c.push_edge.result c.push_edge.ensures.refused

pub returns-else-is_end-clause-told : goal.returns-else-is_end-clause-told
returns-else-is_end-clause-told c =
    let graph = c.args.graph.now in
    none_more (is_end graph.numbers c.args.from) c.args.from c.args.to graph.edges (sym c.is_end.ensures ∙ c.if-is_end.false)
