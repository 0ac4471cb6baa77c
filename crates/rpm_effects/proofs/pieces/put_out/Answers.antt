use Rattle.rpm_effects.proofs.laws.Stopping.{out_cut}
use Rattle.rpm_effects.proofs.pieces.put_out.Goals as goal

pub returns-in-Err-clause-part : goal.returns-in-Err-clause-part
returns-in-Err-clause-part g c = λ for et e. record { steps = out_cut _ _ _ _ _ _ _ c.in-Err.ensures.writes.err; fails = tt }
