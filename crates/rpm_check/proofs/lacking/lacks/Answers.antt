use Rattle.std.proofs.Common.{Ok}
use Rattle.rpm_check.proofs.Asking.{asking_none, asking_of, asks_ended, asks_failed}
use Rattle.rpm_check.proofs.lacking.lacks.Goals as goal

pub returns-then-is_passed_over-clause-asks : goal.returns-then-is_passed_over-clause-asks
returns-then-is_passed_over-clause-asks g c = asks_ended g.D.Disk (Ok _) (asking_none g.D.Disk g.met.D.Disk.follows_refl _ _ c.requires.asked) tt

pub returns-clause-asks : goal.returns-clause-asks
returns-clause-asks g c = asks_ended g.D.Disk (Ok _) (asking_of g.D.Disk c.in_ok-met.ensures.asks) tt

pub returns-in_err-met-clause-asks : goal.returns-in_err-met-clause-asks
returns-in_err-met-clause-asks g c = asks_failed g.D.Disk c.in_err-met.ensures.asks c.from_residual.ensures.1
