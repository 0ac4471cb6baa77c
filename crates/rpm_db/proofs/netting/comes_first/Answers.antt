use Rattle.std.proofs.Common.{ap, ◌∙◌}
use Rattle.std.specs.Ordering.{is_lt}
use Rattle.rpm_db.proofs.Vocabulary.{is_row_before, Row, row_nth, row_of}
use Rattle.rpm_db.proofs.netting.comes_first.Goals as goal

pub returns : goal.returns
returns c =
    c.is_lt.ensures ∙ ap is_lt c.cmp.ensures
    ∙ ap (λ (r : Row). is_row_before r (row_of c.stands_at-2.result)) c.stands_at.ensures
    ∙ ap (is_row_before (row_nth c.args.rows.now c.args.i)) c.stands_at-2.ensures
