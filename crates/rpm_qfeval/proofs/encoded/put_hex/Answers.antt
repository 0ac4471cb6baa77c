use Rattle.rpm_qfeval.proofs.Vocabulary.{upto_last, upto_more, upto_stop}
use Rattle.rpm_qfeval.proofs.Encodings.{hex-cut}
use Rattle.rpm_qfeval.proofs.encoded.put_hex.Goals as goal

pub loop-rest-preserved : goal.loop-rest-preserved
loop-rest-preserved g c = upto_more g.met.O.Sink.follows_trans (hex-cut 256 c.loop-rest.rest.now c.split_at.ensures.front c.split_at.ensures.back)
    c.loop-rest.invariant c.in_ok-put_hex_piece.ensures

pub returns-in_err-put_hex_piece : goal.returns-in_err-put_hex_piece
returns-in_err-put_hex_piece g c = upto_stop g.met.O.Sink.follows_trans _ c.from_residual.result c.from_residual.ensures.0
    (hex-cut 256 c.loop-rest.rest.now c.split_at.ensures.front c.split_at.ensures.back) c.loop-rest.invariant c.in_err-put_hex_piece.ensures

pub returns : goal.returns
returns g c = upto_last g.met.O.Sink.follows_trans c.loop-rest.invariant c.put_hex_piece-2.ensures
