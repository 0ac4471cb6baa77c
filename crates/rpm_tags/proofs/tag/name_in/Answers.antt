use Rattle.std.proofs.Common.{sym, ◌∙◌}
use Rattle.rpm_tags.proofs.Rows.{name_found, name_passed, name_at_end}
use Rattle.rpm_tags.proofs.tag.name_in.Goals as goal

pub returns-then-is_tag : goal.returns-then-is_tag
returns-then-is_tag c =
    name_found c.args.rows.now c.args.tag c.loop-row.row-index _ _ c.loop-row-test.true (sym c.if-is_tag.true ∙ c.is_tag.ensures) c.loop-row.invariant

pub loop-row-preserved : goal.loop-row-preserved
loop-row-preserved c =
    name_passed c.args.rows.now c.args.tag c.loop-row.row-index _ _ c.loop-row-test.true (sym c.if-is_tag.false ∙ c.is_tag.ensures) c.loop-row.invariant

pub returns : goal.returns
returns c = sym (name_at_end c.args.rows.now c.args.tag c.loop-row.row-index c.loop-row-test.false) ∙ c.loop-row.invariant
