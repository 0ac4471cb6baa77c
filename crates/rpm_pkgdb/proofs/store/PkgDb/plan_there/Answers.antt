use Rattle.std.proofs.Common.{ap}
use Rattle.rpm_pkgdb.proofs.Vocabulary.{Store}
use Rattle.rpm_pkgdb.proofs.PlanEnds.{there_plan, there_full}
use Rattle.rpm_pkgdb.proofs.store.PkgDb.plan_there.Goals as goal

pub returns-in-Some-clause-plan : goal.returns-in-Some-clause-plan
returns-in-Some-clause-plan c =
    there_plan c.args.self.now c.args.number c.args.place c.args.size c.args.is_new c.requires.new c.in-Some.start c.requires.held c.requires.number
    c.requires.below c.requires.few c.self.inside.pages (ap (λ (v : Store). v.pages) c.self.view_is) c.in-Some.ensures

pub returns-in-None-clause-full : goal.returns-in-None-clause-full
returns-in-None-clause-full c = λ full.
    there_full c.args.self.now c.args.number c.args.place c.args.size c.args.is_new c.requires.new c.self.inside.pages
    (ap (λ (v : Store). v.pages) c.self.view_is) c.in-None.ensures
