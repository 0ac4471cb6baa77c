use Rattle.rpm_filecheck.proofs.Vocabulary.{packages, store_of}
use Rattle.std.proofs.Common.{◌∙◌}
use Rattle.rpm_filecheck.proofs.AllTold.{is_report}
use Rattle.rpm_filecheck.proofs.report.conflicts.Goals as goal

pub returns-clause-told : goal.returns-clause-told
returns-clause-told g c = λ told.
    let found = c.found.inside in
    is_report (packages (g.D.Disk.files c.args.disk.now).pkg (store_of c.args.db.now))
    (record { paths = found.owned; labels = found.labels; bad = found.bad.items }) c.in_ok-conflicts.conflicts.items
    (c.found.view_is ∙ c.in_ok-found.ensures.found told) c.in_ok-conflicts.ensures
