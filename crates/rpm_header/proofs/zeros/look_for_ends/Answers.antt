use Rattle.std.proofs.Common.{arith, sym, ◌∙◌}
use Rattle.rpm_header.proofs.Counted.{ended_drop, ended_in_front}
use Rattle.rpm_header.proofs.zeros.look_for_ends.Goals as goal

pub returns-then-left-here-clause-value : goal.returns-then-left-here-clause-value
returns-then-left-here-clause-value c = sym (ended_in_front 64 c.loop-rest.left c.loop-rest.rest.now (omega arith)) ∙ c.loop-rest.invariant.same

pub loop-rest-preserved : goal.loop-rest-preserved
loop-rest-preserved c = record {
  same =
      rw (c.zeros_of_block-here.ensures.value, c.behind_block-rest.ensures.value) (ended_drop 64 c.loop-rest.left c.loop-rest.rest.now
      ∙ c.loop-rest.invariant.same);
  within = omega arith;
}
