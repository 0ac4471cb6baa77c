use Rattle.std.proofs.Common.{rules, inl, refl}
use Rattle.rpm_effects.proofs.Told.{line_done, line_cut}
use Rattle.rpm_effects.specs.Texts.{absent_line}
use Rattle.rpm_effects.proofs.faults.put_absent.Goals as goal

pub returns-in-Ok : goal.returns-in-Ok
returns-in-Ok g c = record {
  ended = λ for s ot o. line_done ot g.E.Sink.tells o _ _ (absent_line c.args.path.now) for s c.in-Ok.ensures.writes.ok;
  one = refl;
  kinds = tt;
  err = search rules;
}

pub returns-in-Err : goal.returns-in-Err
returns-in-Err g c = record {
  ended = λ for s ot o. line_cut ot g.E.Sink.tells o _ _ (absent_line c.args.path.now) for s c.in-Err.ensures.writes.err;
  one = tt;
  kinds = inl refl;
  err = search rules;
}
