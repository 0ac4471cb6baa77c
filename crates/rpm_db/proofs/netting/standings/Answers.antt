use Rattle.std.proofs.Common.{arith}
use Rattle.rpm_db.proofs.Ordered.{noted_more}
use Rattle.rpm_db.proofs.netting.standings.Goals as goal

pub loop-i-preserved : goal.loop-i-preserved
loop-i-preserved c =
    record {
      so_far = noted_more c.loop-i.all.items _ c.stands_at.result c.args.rows.now c.loop-i.i (omega (arith, c.loop-i-test.true, c.len.ensures))
          c.in_ok-push.ensures.items c.loop-i.invariant.so_far c.stands_at.ensures;
    }
