use Rattle.std.proofs.Common.{refl}
use Rattle.rpm_qfeval.proofs.Vocabulary.{both, first_stops, upto_more, upto_start, upto_stop}
use Rattle.rpm_qfeval.proofs.pieces.put_quoted.Goals as goal

pub returns-in_err-put_all : goal.returns-in_err-put_all
returns-in_err-put_all g c = first_stops _ c.from_residual.result c.from_residual.ensures.0 refl c.in_err-put_all.ensures

pub returns-in_err-put_escaped_parts : goal.returns-in_err-put_escaped_parts
returns-in_err-put_escaped_parts g c = upto_stop g.met.O.Sink.follows_trans _ c.from_residual-in_err-put_escaped_parts.result
    c.from_residual-in_err-put_escaped_parts.ensures.0 refl (upto_more g.met.O.Sink.follows_trans refl (upto_start g.met.O.Sink.follows_refl refl)
    c.in_ok-put_all.ensures) c.in_err-put_escaped_parts.ensures

pub returns : goal.returns
returns g c = both g.met.O.Sink.follows_trans g.met.O.Sink.follows_refl refl (both g.met.O.Sink.follows_trans g.met.O.Sink.follows_refl refl
    c.in_ok-put_all.ensures c.in_ok-put_escaped_parts.ensures) c.put_all-2.ensures
