use Rattle.std.proofs.Common.{Ok, Err}
use Rattle.rpm_exercise.proofs.Vocabulary.{err_is}
use Rattle.rpm_exercise.proofs.Through.{through_ahead, through_then}
use Rattle.rpm_exercise.proofs.rounds.go_rounds.Goals as goal

pub returns-in_err-added : goal.returns-in_err-added
returns-in_err-added g c =
    rw (err_is c.from_residual.result c.from_residual.ensures) (through_ahead g.D.Disk _ c.in_err-added.ensures.went)

pub returns-in_err-replaced : goal.returns-in_err-replaced
returns-in_err-replaced g c =
    rw (err_is c.from_residual-in_err-replaced.result c.from_residual-in_err-replaced.ensures)
    (through_then g.D.Disk g.met.D.Disk.follows_trans (Err _) c.in_ok-added.ensures.went (through_ahead g.D.Disk _ c.in_err-replaced.ensures.went))

pub returns-in_err-erased : goal.returns-in_err-erased
returns-in_err-erased g c =
    let joins = g.met.D.Disk.follows_trans in
    rw (err_is c.from_residual-in_err-erased.result c.from_residual-in_err-erased.ensures) (through_then g.D.Disk joins (Err _)
    c.in_ok-added.ensures.went (through_then g.D.Disk joins (Err _) c.in_ok-replaced.ensures.went c.in_err-erased.ensures.went))

pub returns : goal.returns
returns g c =
    let joins = g.met.D.Disk.follows_trans in
    through_then g.D.Disk joins (Ok _) c.in_ok-added.ensures.went
    (through_then g.D.Disk joins (Ok _) c.in_ok-replaced.ensures.went c.in_ok-erased.ensures.went)
