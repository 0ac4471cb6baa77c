use Rattle.rpm_effects.proofs.laws.Stopping.{err_cut}
use Rattle.rpm_query.proofs.Vocabulary.{missing_part}
use Rattle.rpm_query.proofs.missing.put_no_record.Goals as goal

pub returns-in-Err-clause-part : goal.returns-in-Err-clause-part
unfolding missing_part
returns-in-Err-clause-part g c = λ j out_tells out. record { steps = err_cut _ _ _ _ _ _ _ c.in-Err.ensures.writes.err; fails = tt }
