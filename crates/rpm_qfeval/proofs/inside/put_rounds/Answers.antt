use Rattle.std.proofs.Common.{refl, sym, ◌∙◌}
use Rattle.rpm_qfeval.proofs.Vocabulary.{bytes, upto_done, upto_more, upto_start, upto_stop}
use Rattle.rpm_qfeval.proofs.Walked.{round_start, round_here, round_end}
use Rattle.rpm_qfeval.proofs.inside.put_rounds.Goals as goal

pub loop-round-init : goal.loop-round-init
loop-round-init g c = record {
  columns = refl;
  ready = refl;
  upto = upto_start g.met.O.Sink.follows_refl
      (sym (round_start (λ i. bytes c.args.view.now c.args.number i c.args.inner.now) c.args.count));
}

pub loop-round-preserved : goal.loop-round-preserved
loop-round-preserved g c = record {
  columns = c.in_ok-put_round.ensures.columns ∙ c.loop-round.invariant.columns;
  ready = c.in_ok-put_round.ensures.ready ∙ c.loop-round.invariant.ready;
  upto = upto_more g.met.O.Sink.follows_trans
      (round_here (λ i. bytes c.args.view.now c.args.number i c.args.inner.now) c.args.count c.loop-round.round c.loop-round-test.true)
      c.loop-round.invariant.upto c.in_ok-put_round.ensures.puts;
}

pub returns-in_err-put_round : goal.returns-in_err-put_round
returns-in_err-put_round g c =
    upto_stop g.met.O.Sink.follows_trans _ c.from_residual.result c.from_residual.ensures.0
    (round_here (λ i. bytes c.args.view.now c.args.number i c.args.inner.now) c.args.count c.loop-round.round c.loop-round-test.true)
    c.loop-round.invariant.upto c.in_err-put_round.ensures.puts

pub returns : goal.returns
returns g c = upto_done (round_end (λ i. bytes c.args.view.now c.args.number i c.args.inner.now) c.args.count c.loop-round.round
    c.loop-round-test.false) c.loop-round.invariant.upto
