use Rattle.std.proofs.Common.{◌∷◌, List}
use Rattle.rpm_blocks.proofs.Vocabulary.{insert, IsPlace, Range}
use Rattle.rpm_blocks.proofs.Same.{same_trans, same_insert}
use Rattle.rpm_blocks.proofs.Edits.{gap_of_place, apart_insert}
use Rattle.rpm_blocks.proofs.runs.join_between.Goals as goal

-- no run that begins below the range reaches into it, and none begins in it
pub join_below-at-requires-clause-gap : goal.join_below-at-requires-clause-gap
join_below-at-requires-clause-gap c =
    let l = c.args.runs.now.items in
    let place : IsPlace l c.args.range.start c.place-at.result = rw (← c.deref.ensures.value) c.place-at.ensures in
    gap_of_place 1 l c.requires.apart c.args.range c.place-at.result c.requires.range place c.requires.free

-- the joined range touches no run
pub returns-clause-apart : goal.returns-clause-apart
returns-clause-apart c =
    let last = c.join_above-whole.ensures in
    rw c.put.ensures.items (apart_insert 1 c.join_above-whole.new.runs.items last.apart c.join_below-at.result.0 c.join_above-whole.result last.gap last.range)

-- each step keeps the blocks
pub returns-clause-same : goal.returns-clause-same
returns-clause-same c =
    let l : List Range = c.args.range ∷ c.args.runs.now.items in
    let below : List Range = c.join_below-at.result.1 ∷ c.join_below-at.new.runs.items in
    let both : List Range = c.join_above-whole.result ∷ c.join_above-whole.new.runs.items in
    let put = insert c.join_above-whole.new.runs.items c.join_below-at.result.0 c.join_above-whole.result in
    let steps = same_trans l below both c.join_below-at.ensures.same c.join_above-whole.ensures.same in
    rw c.put.ensures.items (same_trans l both put steps (same_insert c.join_above-whole.new.runs.items c.join_below-at.result.0 c.join_above-whole.result))
