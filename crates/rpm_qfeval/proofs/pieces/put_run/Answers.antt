use Rattle.std.proofs.Common.{refl}
use Rattle.rpm_qfeval.proofs.Vocabulary.{both, first_stops}
use Rattle.rpm_qfeval.proofs.pieces.put_run.Goals as goal

pub returns-in_err-put_all : goal.returns-in_err-put_all
returns-in_err-put_all g c = first_stops _ c.from_residual.result c.from_residual.ensures.0 refl c.in_err-put_all.ensures

pub returns : goal.returns
returns g c = both g.met.O.Sink.follows_trans g.met.O.Sink.follows_refl refl c.in_ok-put_all.ensures c.put_all-2.ensures
