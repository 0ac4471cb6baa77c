use Rattle.std.proofs.Common.{sym, ◌∙◌, arith}
use Rattle.rpm_db.proofs.Ordered.{so_far_all, so_far_more}
use Rattle.rpm_db.proofs.netting.are_in_order.Goals as goal

pub loop-i-preserved : goal.loop-i-preserved
loop-i-preserved c =
    record {
      so_far = so_far_more c.args.rows.now c.loop-i.i _ c.loop-i.invariant.so_far (omega arith) (sym c.comes_first.ensures ∙ c.if-comes_first.false);
    }

pub returns : goal.returns
returns c = λ is. so_far_all c.args.rows.now c.loop-i.i c.loop-i.invariant.so_far (omega (arith, c.loop-i-test.false, c.len-i-end.ensures))
