use Rattle.std.proofs.Common.{sym, ◌∙◌}
use Rattle.rpm_words.proofs.Spellings.{found, passed, at_end}
use Rattle.rpm_words.proofs.switch.switch_in.Goals as goal

pub returns-then-is_spelled : goal.returns-then-is_spelled
returns-then-is_spelled c =
    found c.args.spellings.now c.args.text.now c.loop-spelling.spelling-index _ _ c.loop-spelling-test.true (sym c.if-is_spelled.true
    ∙ c.is_spelled.ensures) c.loop-spelling.invariant

pub loop-spelling-preserved : goal.loop-spelling-preserved
loop-spelling-preserved c =
    passed c.args.spellings.now c.args.text.now c.loop-spelling.spelling-index _ _ c.loop-spelling-test.true (sym c.if-is_spelled.false
    ∙ c.is_spelled.ensures) c.loop-spelling.invariant

pub returns : goal.returns
returns c = sym (at_end c.args.spellings.now c.args.text.now c.loop-spelling.spelling-index c.loop-spelling-test.false) ∙ c.loop-spelling.invariant
