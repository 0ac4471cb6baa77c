use Rattle.std.proofs.Common.{◌∙◌}
use Rattle.rpm_check.proofs.Running.{first_decides}
use Rattle.rpm_check.proofs.hits.meets.Goals as goal

pub returns-in-Some : goal.returns-in-Some
returns-in-Some c = λ is_run.
    let item = c.in-Some.ensures.item in
    c.is_hit.ensures ∙ first_decides c.args.needed.now.flags c.args.needed.now.evr c.args.run.now c.in-Some.first.now item.3.0 item.1 is_run
