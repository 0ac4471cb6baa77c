use Rattle.std.proofs.Common.{sym, ◌∙◌}
use Rattle.rpm_qfparse.proofs.Rows.{found, passed, at_end}
use Rattle.rpm_qfparse.proofs.tag.show_in.Goals as goal

pub returns-then-has_name : goal.returns-then-has_name
returns-then-has_name c = found c.args.rows.now c.args.name.now c.loop-row.row-index _ _ c.loop-row-test.true
    (sym c.if-has_name.true ∙ c.has_name.ensures) c.loop-row.invariant

pub loop-row-preserved : goal.loop-row-preserved
loop-row-preserved c = passed c.args.rows.now c.args.name.now c.loop-row.row-index _ _ c.loop-row-test.true
    (sym c.if-has_name.false ∙ c.has_name.ensures) c.loop-row.invariant

pub returns : goal.returns
returns c = sym (at_end c.args.rows.now c.args.name.now c.loop-row.row-index c.loop-row-test.false) ∙ c.loop-row.invariant
