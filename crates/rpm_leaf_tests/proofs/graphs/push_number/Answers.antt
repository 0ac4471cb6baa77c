use Rattle.std.proofs.Common.{ap, sym, ◌∙◌}
use Rattle.std.specs.Prelude.{nat_lt}
use Rattle.std.specs.List.{list_all}
use Rattle.rpm_leaf_tests.proofs.Rising.{below}
use Rattle.rpm_leaf_tests.proofs.graphs.push_number.Goals as goal

pub push_number-requires : goal.push_number-requires
push_number-requires c = below c.args.number c.args.graph.now.numbers
    (ap (list_all (λ n. nat_lt n c.args.number)) (sym c.numbers.ensures.numbers) ∙ sym c.are_below.ensures ∙ c.if-are_below.true)
