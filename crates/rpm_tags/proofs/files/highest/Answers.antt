use Rattle.std.proofs.Common.{arith}
use Rattle.rpm_tags.proofs.Asked.{highest_first, highest_more, highest_all}
use Rattle.rpm_tags.proofs.files.highest.Goals as goal

pub loop-i-init : goal.loop-i-init
loop-i-init c = λ limit. highest_first limit c.args.numbers.now c.number-high.result c.number-high.ensures

pub loop-i-preserved : goal.loop-i-preserved
loop-i-preserved c = λ limit.
    highest_more limit c.args.numbers.now c.loop-i.i c.loop-i.high c.number.result c.max-high.result c.max-high.ensures c.number.ensures
    (c.loop-i.invariant limit)

pub returns : goal.returns
returns c = λ limit. highest_all limit c.args.numbers.now c.loop-i.i c.loop-i.high (omega arith) (c.loop-i.invariant limit)
