use Rattle.std.proofs.Common.{◌<◌, arith, rules}
use Rattle.rpm_qfparse.proofs.Vocabulary.{number_of}
use Rattle.rpm_qfparse.proofs.Widths.{too_large, number_of_is, after_number_is}
use Rattle.rpm_qfparse.proofs.tag.width.Goals as goal

pub returns-then-number-gt-MAX_WIDTH : goal.returns-then-number-gt-MAX_WIDTH
returns-then-number-gt-MAX_WIDTH c =
    let big : 4096 < number_of c.args.text.now = too_large c.loop-rest.number c.loop-rest.rest.now c.args.text.now c.in-48-to-57.len_at_least
    (omega arith) (omega arith) c.loop-rest.invariant.1 c.if-number-gt-MAX_WIDTH.true in
    search rules

pub loop-rest-init : goal.loop-rest-init
loop-rest-init c = (omega arith, number_of_is c.args.text.now, after_number_is c.args.text.now)
