use Rattle.std.proofs.Common.{arith}
use Rattle.rpm_qfeval.proofs.Vocabulary.{upto_last, upto_more, upto_stop}
use Rattle.rpm_qfeval.proofs.Encodings.{base64-cut}
use Rattle.rpm_qfeval.proofs.encoded.put_base64.Goals as goal

pub loop-rest-preserved : goal.loop-rest-preserved
loop-rest-preserved g c = upto_more g.met.O.Sink.follows_trans (base64-cut 64 c.loop-rest.rest.now c.split_at.ensures.front c.split_at.ensures.back
    (omega arith)) c.loop-rest.invariant c.in_ok-put_base64_piece.ensures

pub returns-in_err-put_base64_piece : goal.returns-in_err-put_base64_piece
returns-in_err-put_base64_piece g c = upto_stop g.met.O.Sink.follows_trans _ c.from_residual.result c.from_residual.ensures.0
    (base64-cut 64 c.loop-rest.rest.now c.split_at.ensures.front c.split_at.ensures.back (omega arith)) c.loop-rest.invariant c.in_err-put_base64_piece.ensures

pub returns : goal.returns
returns g c = upto_last g.met.O.Sink.follows_trans c.loop-rest.invariant c.put_base64_piece-2.ensures
