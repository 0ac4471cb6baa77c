use Rattle.std.proofs.Common.{rules}
use Rattle.rpm_leaf_tests.proofs.Rising.{among}
use Rattle.rpm_leaf_tests.proofs.graphs.push_edge.Goals as goal

pub push_edge-requires-clause-joins : goal.push_edge-requires-clause-joins
push_edge-requires-clause-joins c = record {
  begins = among c.args.from c.args.graph.now.numbers (search rules);
  ends = among c.args.to c.args.graph.now.numbers (search rules);
  differ = search rules;
}
