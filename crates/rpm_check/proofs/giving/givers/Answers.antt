use Rattle.rpm_check.proofs.Vocabulary.{needed_in, packages, store_of}
use Rattle.std.proofs.Common.{◌∙◌}
use Rattle.rpm_check.proofs.Providing.{StandsFor, givers_are}
use Rattle.rpm_check.proofs.giving.givers.Goals as goal
use Rattle.rpm_check.proofs.Asking.{told_more}

pub returns-clause-told : goal.returns-clause-told
returns-clause-told g c =
    let wanted = c.of_range-wanted in
    let stands : StandsFor wanted.result (needed_in c.args.needed.now)
    = record { name = wanted.ensures.name; plain = wanted.ensures.plain; same = wanted.ensures.same } in
    told_more c.numbers_picked.result _ _ (λ ns said told has holds. said told has holds
    ∙ givers_are wanted.result (needed_in c.args.needed.now) stands (packages (g.D.Disk.files c.args.disk.now).pkg (store_of c.args.db.now)))
    c.numbers_picked.ensures.told
