use Rattle.std.proofs.Common.{◌≡◌, ◌-◌, refl, arith}
use Rattle.rpm_blocks.proofs.Vocabulary.{end_of_range, Range}
use Rattle.rpm_blocks.proofs.Cuts.{same_cut, free_cut, free_of_gap, gap_within}
use Rattle.rpm_blocks.proofs.runs.cut.Goals as goal

-- the lower part goes below the upper one
pub put_part-requires-2-clause-gap : goal.put_part-requires-2-clause-gap
put_part-requires-2-clause-gap c =
    let taken = c.take_run-at.ensures in
    let below : Range = record { start = c.take_run-at.result.1.start; count = c.args.range.start - c.take_run-at.result.1.start } in
    let ends : end_of_range below ≡ c.args.range.start = omega (arith, taken.starts) in
    let place = gap_within 1 1 c.take_run-at.new.runs.items c.take_run-at.result.1 below c.take_run-at.result.0 taken.gap (omega arith)
    (omega (arith, taken.ends)) in
    c.put_part.ensures.gap below place (omega (arith, c.requires.range.filled, c.end.ensures))

pub returns-clause-free : goal.returns-clause-free
returns-clause-free c =
    let taken = c.take_run-at.ensures in
    let x : Range = c.take_run-at.result.1 in
    let r : Range = c.args.range in
    let above : Range = record { start = c.end.result; count = c.end-2.result - c.end-3.result } in
    let below : Range = record { start = x.start; count = r.start - x.start } in
    let m = c.take_run-at.new.runs.items in
    let free = free_of_gap 1 1 m r c.take_run-at.result.0 (gap_within 1 1 m x r c.take_run-at.result.0 taken.gap taken.starts taken.ends) in
    free_cut x r above below refl (omega (arith, taken.starts)) (omega (arith, c.end.ensures))
    (omega (arith, taken.ends, c.end.ensures, c.end-2.ensures, c.end-3.ensures)) c.args.runs.now.items m c.put_part.new.runs.items
    c.put_part-2.new.runs.items taken.same c.put_part.ensures.same c.put_part-2.ensures.same free

pub returns-clause-same : goal.returns-clause-same
returns-clause-same c =
    let taken = c.take_run-at.ensures in
    let x : Range = c.take_run-at.result.1 in
    let r : Range = c.args.range in
    let above : Range = record { start = c.end.result; count = c.end-2.result - c.end-3.result } in
    let below : Range = record { start = x.start; count = r.start - x.start } in
    let m = c.take_run-at.new.runs.items in
    same_cut x r above below refl (omega (arith, taken.starts)) (omega (arith, c.end.ensures))
    (omega (arith, taken.ends, c.end.ensures, c.end-2.ensures, c.end-3.ensures)) c.args.runs.now.items m c.put_part.new.runs.items
    c.put_part-2.new.runs.items taken.same c.put_part.ensures.same c.put_part-2.ensures.same
