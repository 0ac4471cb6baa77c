use Rattle.std.proofs.Common.{◌-◌, get_or, arith}
use Rattle.std.proofs.lemmas.Bool.{ltb-true}
use Rattle.rpm_select.proofs.Searching.{no_fall}
use Rattle.rpm_select.proofs.reach.are_passed.Goals as goal

pub returns-then-count-numbers-2-clause-below : goal.returns-then-count-numbers-2-clause-below
returns-then-count-numbers-2-clause-below c told k before within =
    let last = no_fall c.args.numbers.now c.requires k (c.args.count - 1) (omega (arith, before))
    (omega (arith, c.if-count-eq0.false, c.if-count-numbers.false)) in
    omega (arith, last, c.if-numbers-count.false)

pub returns-else-count-numbers-2-clause-below : goal.returns-else-count-numbers-2-clause-below
returns-else-count-numbers-2-clause-below c told k before within =
    let last = no_fall c.args.numbers.now c.requires k (c.args.count - 1) (omega (arith, before))
    (omega (arith, c.if-count-eq0.false, c.if-count-numbers.false)) in
    omega (arith, last, c.if-numbers-count.false)

pub returns-else-count-numbers-2-clause-over : goal.returns-else-count-numbers-2-clause-over
returns-else-count-numbers-2-clause-over c told k from within =
    let next = no_fall c.args.numbers.now c.requires c.args.count k from within in
    omega (arith, next, ltb-true c.args.n (get_or c.args.numbers.now c.args.count 0) told)
