use Rattle.rpm_effects.proofs.Vocabulary.{flushed, stopped}
use Rattle.rpm_effects.proofs.pieces.put_line.Goals as goal

pub returns-in_err-put_pieces : goal.returns-in_err-put_pieces
returns-in_err-put_pieces g c = rw (← c.clear.ensures.inner) (record {
  writes = stopped g.met.S.Sink.follows_grows c.from_residual.result c.from_residual.ensures.0 c.clear.ensures.holds c.in_err-put_pieces.ensures;
})

pub returns : goal.returns
returns g c = rw (← c.clear.ensures.inner) (record {
  writes = flushed g.met.S.Sink.follows_grows g.met.S.Sink.follows_trans c.flush.new.self c.flush.result c.clear.ensures.holds c.in_ok-put_pieces.ensures
      c.flush.ensures;
})
