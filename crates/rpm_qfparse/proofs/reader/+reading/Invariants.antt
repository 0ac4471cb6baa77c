use Rattle.std.proofs.Common.{◌+◌, ◌*◌, ◌-◌, length, cond}
use Rattle.rpm_qfparse.proofs.Vocabulary.{in_front_of, behind_part, Gives, Reading, Tree}
use Rattle.rpm_qfparse.proofs.reader.+reading.Given as goal

-- brackets don't nest, and conditions do so at most sixteen times
abbrev pub decreases-branches : goal.decreases-branches
decreases-branches l = 4 * (16 - l.depth) + cond l.in_bracket 0 2

abbrev pub decreases-read : goal.decreases-read
decreases-read l = 4 * (16 - l.depth) + cond l.in_bracket 0 2 + 1

-- what the rest gives after the draft, the text gives
abbrev pub invariant-read-loop-behind : goal.invariant-read-loop-behind
invariant-read-loop-behind l = (a : Reading Tree) → Gives l.context l.in_bracket l.depth l.rest a → Gives l.context l.in_bracket l.depth l.text
    (behind_part (in_front_of l.draft) a)

abbrev pub decreases-read-loop-behind : goal.decreases-read-loop-behind
decreases-read-loop-behind l = length l.rest
