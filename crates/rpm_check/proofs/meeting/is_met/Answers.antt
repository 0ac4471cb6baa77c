use Rattle.rpm_check.proofs.Vocabulary.{needed_in, packages, store_of}
use Rattle.std.proofs.Common.{◌∙◌}
use Rattle.rpm_check.proofs.Providing.{StandsFor, met_is}
use Rattle.rpm_check.proofs.meeting.is_met.Goals as goal
use Rattle.rpm_check.proofs.Asking.{told_more}

pub returns-clause-told : goal.returns-clause-told
returns-clause-told g c =
    let wanted = c.of_range-wanted in
    let stands : StandsFor wanted.result (needed_in c.args.needed.now)
    = record { name = wanted.ensures.name; plain = wanted.ensures.plain; same = wanted.ensures.same } in
    told_more c.picks_any.result _ _ (λ any said told has holds. said told has holds
    ∙ met_is wanted.result (needed_in c.args.needed.now) stands (packages (g.D.Disk.files c.args.disk.now).pkg (store_of c.args.db.now)))
    c.picks_any.ensures.told
