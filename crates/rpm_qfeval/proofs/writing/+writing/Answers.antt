use Rattle.std.proofs.Common.{arith, length, ◌≤◌, sym}
use Rattle.rpm_qfeval.proofs.Vocabulary.{bytes, parts_of_tree, upto_done, upto_more, upto_start, upto_stop}
use Rattle.rpm_qfeval.proofs.Walked.{bytes_start, bytes_here, bytes_end}
use Rattle.rpm_qfeval.proofs.writing.+writing.Goals as goal

pub put_parts-loop-i-init : goal.put_parts-loop-i-init
put_parts-loop-i-init g t c = upto_start g.met.O.Sink.follows_refl (sym (bytes_start c.args.view.now c.args.number 0 c.args.parts.now))

pub put_parts-loop-i-preserved : goal.put_parts-loop-i-preserved
put_parts-loop-i-preserved g t c =
    upto_more g.met.O.Sink.follows_trans (bytes_here c.args.view.now c.args.number 0 c.loop-i.i c.args.parts.now c.at.result.now c.at.ensures.value)
    c.loop-i.invariant c.in_ok-put_part.ensures

pub put_parts-returns-in_err-put_part : goal.put_parts-returns-in_err-put_part
put_parts-returns-in_err-put_part g t c =
    upto_stop g.met.O.Sink.follows_trans _ c.from_residual.result c.from_residual.ensures.0 (bytes_here c.args.view.now c.args.number 0 c.loop-i.i
    c.args.parts.now c.at.result.now c.at.ensures.value) c.loop-i.invariant c.in_err-put_part.ensures

pub put_parts-returns : goal.put_parts-returns
put_parts-returns g t c =
    let le : length (parts_of_tree c.args.parts.now) ≤ c.loop-i.i = omega arith in
    upto_done {all = bytes c.args.view.now c.args.number 0 c.args.parts.now} (bytes_end c.args.view.now c.args.number 0 c.loop-i.i
    c.args.parts.now le) c.loop-i.invariant
