use Rattle.std.proofs.Common.{◌≡◌, ℕ, Option, None, is_none, sym, subst}
use Rattle.rpm_pkgdb.proofs.Vocabulary.{IsStoreFull}
use Rattle.rpm_pkgdb.proofs.store.PkgDb.plan_ready.Goals as goal

pub returns-in-Some-clause-full : goal.returns-in-Some-clause-full
returns-in-Some-clause-full c = λ full.
    subst (λ (o : Option ℕ). IsStoreFull c.args.self.now (is_none o) c.args.length) (sym c.in-Some.is) (c.plan_there.ensures.full full)

pub returns-in-Some-first_free-clause-full : goal.returns-in-Some-first_free-clause-full
returns-in-Some-first_free-clause-full c = λ full.
    let none : c.args.n ≡ None = c.in_default.is in
    subst (λ (o : Option ℕ). IsStoreFull c.args.self.now (is_none o) c.args.length) (sym none) (c.plan_there-in-Some-first_free.ensures.full full)

pub returns-in-None-clause-full : goal.returns-in-None-clause-full
returns-in-None-clause-full c = λ full.
    let none : c.args.n ≡ None = c.in_default.is in
    subst (λ (o : Option ℕ). IsStoreFull c.args.self.now (is_none o) c.args.length) (sym none) (c.plan_behind.ensures.full full)
