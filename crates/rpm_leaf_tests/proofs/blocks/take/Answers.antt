use Rattle.rpm_blocks.specs.Blocks.{range, with_range}
use Rattle.rpm_blocks.proofs.laws.Laws.{begins_in, with_range_here}
use Rattle.rpm_leaf_tests.proofs.blocks.take.Goals as goal

-- the range that was inserted is in the list
pub returns : goal.returns
returns c =
    let l = c.reserve.new.self.ranges in
    let r = range c.in-Some.place c.args.count in
    let begins = begins_in (with_range r l) r (with_range_here r l) in
    rw c.insert.ensures.ranges begins
