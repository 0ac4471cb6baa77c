use Rattle.rpm_pkgdb.proofs.PlanLaws.{least_from}
use Rattle.rpm_pkgdb.proofs.page_plan.Page.fit.Goals as goal

pub returns : goal.returns
returns c =
    let p = c.args.self.now in
    let r = c.requires.ranged.1 in
    least_from c.requires.ranged.0 p.used.ranges p.slots.items r.sound r.ranges c.args.count c.requires.some c.args.from c.first_fit.result
    c.first_fit.ensures.least
