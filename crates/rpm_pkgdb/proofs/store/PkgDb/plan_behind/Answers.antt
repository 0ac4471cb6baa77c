use Rattle.std.proofs.Common.{◌≡◌, ap, subst, Err, ◌∙◌, length, true}
use Rattle.rpm_pkgdb.proofs.Vocabulary.{IsStoreFull, IsKept, Store, StoreFull}
use Rattle.rpm_pkgdb.proofs.Changing.{err_given}
use Rattle.rpm_pkgdb.proofs.PlanEnds.{behind_plan, behind_full, stuck_full}
use Rattle.rpm_pkgdb.proofs.store.PkgDb.plan_behind.Goals as goal

pub returns-in_err-page-clause-full : goal.returns-in_err-page-clause-full
returns-in_err-page-clause-full c =
    let st = c.args.self.now in
    err_given (λ r. r ≡ Err StoreFull → IsStoreFull st true c.args.length) _ c.from_residual.result c.from_residual.ensures (λ full.
    let fault : c.in_err-page.field-0.0 ≡ StoreFull = cc in
    stuck_full st c.args.length c.requires.all (c.in_err-page.ensures.full (ap Err fault)))

pub returns-in-None-clause-full : goal.returns-in-None-clause-full
returns-in-None-clause-full c = λ full.
    let kept = subst (λ (x : Store). IsKept c.self.inside.numbers.pairs x.pages x.slots) c.self.view_is c.self.invariant.kept in
    let p = c.in_ok-page.ensures.page in
    behind_full c.args.self.now _ kept c.requires.made c.in_ok-page.page p.0.1 p.1 c.args.length c.self.inside.pages
    (ap (λ (v : Store). v.pages) c.self.view_is) c.in-None.ensures

pub returns-in-Some-clause-plan : goal.returns-in-Some-clause-plan
returns-in-Some-clause-plan c =
    let kept = subst (λ (x : Store). IsKept c.self.inside.numbers.pairs x.pages x.slots) c.self.view_is c.self.invariant.kept in
    let p = c.in_ok-page.ensures.page in
    behind_plan c.args.self.now _ kept c.requires.made c.in_ok-page.page p.0.1 p.1 c.args.length c.self.inside.pages
    (ap (λ (v : Store). v.pages) c.self.view_is) c.args.number c.len.result c.in-Some.start c.requires.next c.requires.number
    (c.len.ensures ∙ c.self.inside.slots.ok.0 ∙ ap (λ (v : Store). length v.slots) c.self.view_is) c.requires.few c.in-Some.ensures
