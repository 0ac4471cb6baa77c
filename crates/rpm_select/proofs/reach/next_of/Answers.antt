use Rattle.rpm_select.proofs.Searching.{next_there, next_none}
use Rattle.rpm_select.proofs.reach.next_of.Goals as goal

pub returns-then-passed-numbers : goal.returns-then-passed-numbers
returns-then-passed-numbers c =
    next_there c.args.numbers.now c.requires c.args.n c.passed_count-passed.result c.passed_count-passed.ensures.below c.passed_count-passed.ensures.over
    c.if-passed-numbers.true

pub returns-else-passed-numbers : goal.returns-else-passed-numbers
returns-else-passed-numbers c =
    next_none c.args.numbers.now c.requires c.args.n c.passed_count-passed.result c.passed_count-passed.ensures.below c.passed_count-passed.ensures.over
    c.if-passed-numbers.false
