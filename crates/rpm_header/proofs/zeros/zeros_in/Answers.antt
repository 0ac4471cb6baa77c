use Rattle.std.proofs.Common.{arith, ap}
use Rattle.rpm_header.proofs.Vocabulary.{zeros}
use Rattle.rpm_header.proofs.Counted.{zeros-parts, zeros-le}
use Rattle.rpm_header.proofs.zeros.zeros_in.Goals as goal

pub overflow_add-seen : goal.overflow_add-seen
overflow_add-seen c = omega (arith, zeros-parts 64 c.loop-rest.rest.now, zeros-le c.args.bytes.now)

pub overflow_cast-result : goal.overflow_cast-result
overflow_cast-result c = omega (arith, zeros-le c.args.bytes.now)

pub overflow_add-result : goal.overflow_add-result
overflow_add-result c = omega (arith, zeros-le c.args.bytes.now)

pub loop-rest-preserved : goal.loop-rest-preserved
loop-rest-preserved c = record {
  counted = omega (arith, zeros-parts 64 c.loop-rest.rest.now, ap zeros c.behind_block-rest.ensures.value);
  within = omega arith;
}
