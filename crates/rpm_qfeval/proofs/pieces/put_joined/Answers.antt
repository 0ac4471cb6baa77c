use Rattle.std.proofs.Common.{refl, sym, arith, ap}
use Rattle.rpm_qfeval.proofs.Vocabulary.{concat, upto_done, upto_more, upto_start, upto_stop}
use Rattle.rpm_qfeval.proofs.Steps.{drop_here, drop_none, within}
use Rattle.rpm_qfeval.proofs.pieces.put_joined.Goals as goal

pub loop-part-init : goal.loop-part-init
loop-part-init g c = upto_start g.met.O.Sink.follows_refl refl

pub overflow_add-k : goal.overflow_add-k
overflow_add-k g c = omega (arith, within c.args.text.now c.loop-part.k _ (sym c.in-Some.ensures.value), c.in-Some.ensures.few)

pub loop-part-smaller : goal.loop-part-smaller
loop-part-smaller g c = omega (arith, within c.args.text.now c.loop-part.k _ (sym c.in-Some.ensures.value))

pub loop-part-preserved : goal.loop-part-preserved
loop-part-preserved g c = upto_more g.met.O.Sink.follows_trans (ap concat (drop_here c.args.text.now c.loop-part.k _ (sym c.in-Some.ensures.value)))
    c.loop-part.invariant c.in_ok-put_all.ensures

pub returns-in_err-put_all : goal.returns-in_err-put_all
returns-in_err-put_all g c = upto_stop g.met.O.Sink.follows_trans _ c.from_residual.result c.from_residual.ensures.0
    (ap concat (drop_here c.args.text.now c.loop-part.k _ (sym c.in-Some.ensures.value))) c.loop-part.invariant c.in_err-put_all.ensures

pub returns : goal.returns
returns g c = upto_done (ap concat (drop_none c.args.text.now c.loop-part.k (sym c.in_default.ensures.value))) c.loop-part.invariant
