use Rattle.rpm_outside.proofs.Vocabulary.{flushed, stopped}
use Rattle.rpm_outside.proofs.puts.put_through.Goals as goal

pub returns-in_err-put_all : goal.returns-in_err-put_all
returns-in_err-put_all g c = stopped g.met.O.Sink.follows_grows c.from_residual.result c.from_residual.ensures.0 c.requires c.in_err-put_all.ensures

pub returns : goal.returns
returns g c = flushed g.met.O.Sink.follows_grows g.met.O.Sink.follows_trans c.flush.new.self c.flush.result c.requires c.in_ok-put_all.ensures c.flush.ensures
