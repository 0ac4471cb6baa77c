use Rattle.std.proofs.Common.{◌≡◌}
use Rattle.rpm_qfeval.proofs.Vocabulary.{escaped_text, upto_last, upto_more, upto_stop}
use Rattle.rpm_qfeval.proofs.pieces.put_escaped.Goals as goal

pub loop-run-preserved : goal.loop-run-preserved
loop-run-preserved g c = upto_more g.met.O.Sink.follows_trans c.in-Some.ensures.cut c.loop-run.invariant c.in_ok-put_run.ensures

pub returns-in_err-put_run : goal.returns-in_err-put_run
returns-in_err-put_run g c = upto_stop g.met.O.Sink.follows_trans _ c.from_residual.result c.from_residual.ensures.0 c.in-Some.ensures.cut
    c.loop-run.invariant c.in_err-put_run.ensures

pub returns : goal.returns
returns g c =
    let plain : escaped_text c.loop-run.rest.now ≡ c.loop-run.rest.now = c.in_default.ensures.whole in
    upto_last g.met.O.Sink.follows_trans c.loop-run.invariant (rw plain c.put_all.ensures)
