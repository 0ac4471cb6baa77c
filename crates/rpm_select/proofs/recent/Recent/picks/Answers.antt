use Rattle.rpm_select.proofs.Vocabulary.{packages, store_of}
use Rattle.std.specs.FinMap as finite
use Rattle.rpm_select.proofs.Recalling.{none_at}
use Rattle.rpm_select.proofs.recent.Recent.picks.Goals as goal

pub returns-in-Ok-None-clause-told : goal.returns-in-Ok-None-clause-told
returns-in-Ok-None-clause-told g c = λ told holds.
    none_at c.args.selection.now c.args.number (finite.get (packages (g.D.Disk.files c.args.disk.now).pkg (store_of c.args.db.now)) c.args.number)
    (rw c.in-Ok-None.field-0-is at (c.in-Ok-None.ensures.told told))
