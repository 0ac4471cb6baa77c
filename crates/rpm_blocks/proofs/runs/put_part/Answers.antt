use Rattle.std.proofs.Common.{arith}
use Rattle.rpm_blocks.proofs.Same.{same_insert, unused_tail, unused_cons}
use Rattle.rpm_blocks.proofs.Vocabulary.{IsRange}
use Rattle.rpm_blocks.proofs.Edits.{apart_insert, gap_inserted}
use Rattle.rpm_blocks.proofs.runs.put_part.Goals as goal

pub returns-then-part-gt0-clause-same : goal.returns-then-part-gt0-clause-same
returns-then-part-gt0-clause-same c = rw c.put.ensures.items (same_insert c.args.runs.now.items c.args.at c.args.part)

pub returns-then-part-gt0-clause-gap : goal.returns-then-part-gt0-clause-gap
returns-then-part-gt0-clause-gap c r gap below =
    rw c.put.ensures.items (gap_inserted 1 c.args.runs.now.items c.requires.apart c.args.at c.args.part c.requires.gap r gap below)

-- a part with no block adds none
pub returns-else-part-gt0-clause-same : goal.returns-else-part-gt0-clause-same
returns-else-part-gt0-clause-same c = record {
  there = λ b unused. unused_tail c.args.part c.args.runs.now.items b unused;
  back = λ b unused. unused_cons c.args.part c.args.runs.now.items b (λ has. omega (arith, has.from, has.below)) unused;
}

pub returns-then-part-gt0-clause-apart : goal.returns-then-part-gt0-clause-apart
returns-then-part-gt0-clause-apart c =
    let is_range : IsRange c.args.part = record { filled = c.if-part-gt0.true; bounded = c.requires.bounded } in
    rw c.put.ensures.items (apart_insert 1 c.args.runs.now.items c.requires.apart c.args.at c.args.part c.requires.gap is_range)
