use Rattle.std.proofs.Common.{arith}
use Rattle.rpm_group.proofs.Laids.{held_nothing, laid_none}
use Rattle.rpm_group.proofs.pages.Pages.new.Goals as goal

pub invariant_of-result : goal.invariant_of-result
invariant_of-result c = record {
  small = omega arith;
  past = held_nothing c.new.result.items c.new.ensures.items;
  last = λ some. absurd (omega (arith, some));
}

pub returns : goal.returns
returns c = λ file. laid_none c.new.result.items file (held_nothing c.new.result.items c.new.ensures.items)
