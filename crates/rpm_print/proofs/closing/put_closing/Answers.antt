use Rattle.rpm_print.proofs.Vocabulary.{flushed, stopped}
use Rattle.rpm_print.proofs.closing.put_closing.Goals as goal

pub returns-in_err-put_line : goal.returns-in_err-put_line
returns-in_err-put_line g c =
    rw (← c.clear.ensures.inner) (stopped g.met.E.Sink.follows_grows c.from_residual.result c.from_residual.ensures.0 c.clear.ensures.holds
    c.in_err-put_line.ensures)

pub returns : goal.returns
returns g c =
    rw (← c.clear.ensures.inner) (flushed g.met.E.Sink.follows_grows g.met.E.Sink.follows_trans c.flush.new.self c.flush.result c.clear.ensures.holds
    c.in_ok-put_line.ensures c.flush.ensures)
