use Rattle.std.proofs.Common.{arith, ◌∙◌, ap}
use Rattle.rpm_header.proofs.Vocabulary.{zeros}
use Rattle.rpm_header.proofs.Counted.{zeros-parts}
use Rattle.rpm_header.proofs.Skipped.{skip_drop}
use Rattle.rpm_header.proofs.zeros.pass_parts.Goals as goal

pub loop-rest-preserved : goal.loop-rest-preserved
loop-rest-preserved c = record {
  same =
      rw (c.zeros_of_part-here.ensures, c.behind_part-rest.ensures.value) (skip_drop 16 c.loop-rest.left c.loop-rest.rest.now (omega arith)
      ∙ c.loop-rest.invariant.same);
  more = omega (arith, zeros-parts 16 c.loop-rest.rest.now, ap zeros c.behind_part-rest.ensures.value);
}
