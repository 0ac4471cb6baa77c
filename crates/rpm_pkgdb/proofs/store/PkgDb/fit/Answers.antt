use Rattle.std.proofs.Common.{Option, Some, MatchOption, subst}
use Rattle.rpm_pkgdb.proofs.Vocabulary.{Blocks, FitsNowhere, HasUsed, IsLeast, Store}
use Rattle.rpm_pkgdb.proofs.PlanLaws.{least_from}
use Rattle.rpm_pkgdb.proofs.store.PkgDb.fit.Goals as goal

pub returns : goal.returns
returns c =
    let i = c.self.inside in
    let b = c.in-Some.used in
    let has : HasUsed (Some b) i.spare i.slots.items = subst (λ (o : Option Blocks). HasUsed o i.spare i.slots.items) c.in-Some.is c.self.invariant.used in
    subst (λ (v : Store). MatchOption c.first_fit.result (FitsNowhere v.slots c.args.count c.args.from) (IsLeast v.slots c.args.count c.args.from))
    c.self.view_is
    (least_from i.pages b.ranges i.slots.items c.self.invariant.kept.sound has.0 c.args.count c.requires.some c.args.from c.first_fit.result
    c.first_fit.ensures.least)
