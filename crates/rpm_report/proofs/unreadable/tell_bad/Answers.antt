use Rattle.rpm_report.proofs.Vocabulary.{bad_step, bearer}
use Rattle.std.proofs.Common.{refl}
use Rattle.std.proofs.lemmas.Result.{err_from_is_err_and}
use Rattle.rpm_effects.proofs.laws.Reaching.{not_begun, through_none}
use Rattle.rpm_report.proofs.Telling.{step_stops}
use Rattle.rpm_report.proofs.unreadable.tell_bad.Goals as goal

pub returns-in-Ok-clause-went : goal.returns-in-Ok-clause-went
returns-in-Ok-clause-went g c = λ told ot o.
    rw (c.in-Ok.ensures.told told) (record { steps = through_none {ot = ot} {et = g.E.Sink.tells} o _; fails = refl })

pub returns-in-Err-NoSuch-clause-went : goal.returns-in-Err-NoSuch-clause-went
returns-in-Err-NoSuch-clause-went g c = λ told ot o.
    rw (rw c.in-Err-NoSuch.field-0-is at (c.in-Err-NoSuch.ensures.told told))
    (record { steps = through_none {ot = ot} {et = g.E.Sink.tells} o _; fails = refl })

pub returns-in_ok-put_bad-in-Err-Bad-clause-went : goal.returns-in_ok-put_bad-in-Err-Bad-clause-went
returns-in_ok-put_bad-in-Err-Bad-clause-went g c = λ told ot o.
    rw (rw c.in-Err-Bad.field-0-is at (c.in-Err-Bad.ensures.told told))
    (record { steps = (c.in_ok-put_bad-in-Err-Bad.ensures.step (bearer 0 c.args.number) ot o).1; fails = refl })

pub returns-in_err-put_bad-in-Err-Bad-clause-went : goal.returns-in_err-put_bad-in-Err-Bad-clause-went
returns-in_err-put_bad-in-Err-Bad-clause-went g c = λ told ot o.
    let p = err_from_is_err_and c.from_residual.result c.from_residual.ensures.1 in
    let n = c.args.number in
    let step = step_stops (bad_step 0 n) c.in_err-put_bad-in-Err-Bad.field-0.0 _ _ (c.in_err-put_bad-in-Err-Bad.ensures.step (bearer 0 n) ot o) in
    rw (p.1, p.2) (rw (rw c.in-Err-Bad.field-0-is at (c.in-Err-Bad.ensures.told told)) (record { steps = step; fails = tt }))

pub returns-in-Err-DiskFault-clause-went : goal.returns-in-Err-DiskFault-clause-went
returns-in-Err-DiskFault-clause-went g c = λ told ot o. record {
  steps = not_begun (through_none {ot = ot} {et = g.E.Sink.tells} o _);
  fails = tt;
}

pub returns-in-Err-NoMemory-clause-went : goal.returns-in-Err-NoMemory-clause-went
returns-in-Err-NoMemory-clause-went g c = λ told ot o. record {
  steps = not_begun (through_none {ot = ot} {et = g.E.Sink.tells} o _);
  fails = tt;
}
