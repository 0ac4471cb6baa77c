use Rattle.std.proofs.Common.{sym, subst}
use Rattle.rpm_file.proofs.Vocabulary.{headed_part, IsFileFault, bytes_left}
use Rattle.rpm_file.proofs.Packaged.{headed_none, headed_fault}
use Rattle.rpm_file.proofs.package.read_part.Goals as goal

pub returns-in-Ok-None-clause-answers : goal.returns-in-Ok-None-clause-answers
returns-in-Ok-None-clause-answers g c = λ told.
    let a = rw c.in-Ok-None.field-0-is at c.in-Ok-None.ensures.answers told in
    headed_none c.args.part (bytes_left (g.S.Shelf.rest c.args.shelf.now)) a.0

pub returns-in-Err-clause-answers : goal.returns-in-Err-clause-answers
returns-in-Err-clause-answers g c = λ told.
    subst (IsFileFault (headed_part c.args.part (bytes_left (g.S.Shelf.rest c.args.shelf.now)))) (sym c.early_fault.ensures)
    (headed_fault c.args.part (bytes_left (g.S.Shelf.rest c.args.shelf.now)) c.in-Err.fault (c.in-Err.ensures.answers told))
