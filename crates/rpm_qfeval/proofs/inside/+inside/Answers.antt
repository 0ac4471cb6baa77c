use Rattle.std.proofs.Common.{arith, length, ◌≤◌, refl, sym, ◌∙◌}
use Rattle.rpm_qfeval.proofs.Vocabulary.{bytes, parts_of_tree, upto_done, upto_more, upto_start, upto_stop}
use Rattle.rpm_qfeval.proofs.Walked.{bytes_start, bytes_here, bytes_end}
use Rattle.rpm_qfeval.proofs.inside.+inside.Goals as goal

pub put_round-loop-i-init : goal.put_round-loop-i-init
put_round-loop-i-init g t c = record {
  columns = refl;
  ready = refl;
  upto = upto_start g.met.O.Sink.follows_refl (sym (bytes_start c.args.view.now c.args.number c.args.round c.args.inner.now));
}

pub put_round-loop-i-preserved : goal.put_round-loop-i-preserved
put_round-loop-i-preserved g t c = record {
  columns = c.in_ok-put_part_at.ensures.columns ∙ c.loop-i.invariant.columns;
  ready = c.in_ok-put_part_at.ensures.ready ∙ c.loop-i.invariant.ready;
  upto = upto_more g.met.O.Sink.follows_trans (bytes_here c.args.view.now c.args.number c.args.round
      c.loop-i.i c.args.inner.now c.at.result.now c.at.ensures.value) c.loop-i.invariant.upto c.in_ok-put_part_at.ensures.puts;
}

pub put_round-returns-in_err-put_part_at-clause-puts : goal.put_round-returns-in_err-put_part_at-clause-puts
put_round-returns-in_err-put_part_at-clause-puts g t c =
    upto_stop g.met.O.Sink.follows_trans _ c.from_residual.result c.from_residual.ensures.0 (bytes_here c.args.view.now c.args.number
    c.args.round c.loop-i.i c.args.inner.now c.at.result.now c.at.ensures.value) c.loop-i.invariant.upto c.in_err-put_part_at.ensures.puts

pub put_round-returns-clause-puts : goal.put_round-returns-clause-puts
put_round-returns-clause-puts g t c =
    let le : length (parts_of_tree c.args.inner.now) ≤ c.loop-i.i = omega arith in
    upto_done {all = bytes c.args.view.now c.args.number c.args.round c.args.inner.now} (bytes_end c.args.view.now c.args.number
    c.args.round c.loop-i.i c.args.inner.now le) c.loop-i.invariant.upto
