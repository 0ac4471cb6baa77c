use Rattle.std.proofs.Common.{◌≡◌, ℕ, ◌<◌, IsSome, ap, sym, subst}
use Rattle.rpm_pkgdb.proofs.Vocabulary.{MapWithOne, find_in, SlotIndex, IsStrictlySorted, Pairs}
use Rattle.rpm_pkgdb.proofs.Pushed.{pushed_sorted, pushed_adds}
use Rattle.rpm_pkgdb.proofs.numbers.Numbers.push.Goals as goal

pub invariant_of-self : goal.invariant_of-self
invariant_of-self c =
    let l = c.self.inside.pairs.items in
    let is : l ≡ c.args.self.now.pairs = ap (λ (v : SlotIndex). v.pairs) c.self.view_is in
    let above : (m : ℕ) → IsSome (find_in l m) → m < c.args.n =
    subst (λ (x : Pairs). (m : ℕ) → IsSome (find_in x m) → m < c.args.n) (sym is) c.requires.above in
    subst IsStrictlySorted (sym c.in-Ok.ensures.items) (pushed_sorted l c.args.n c.args.place c.self.invariant above)

pub returns-clause-adds : goal.returns-clause-adds
returns-clause-adds c =
    let l = c.self.inside.pairs.items in
    let is : l ≡ c.args.self.now.pairs = ap (λ (v : SlotIndex). v.pairs) c.self.view_is in
    let above : (m : ℕ) → IsSome (find_in l m) → m < c.args.n =
    subst (λ (x : Pairs). (m : ℕ) → IsSome (find_in x m) → m < c.args.n) (sym is) c.requires.above in
    subst (λ (x : Pairs). MapWithOne (find_in x) (find_in c.push.new.self.items) c.args.n c.args.place) is
    (subst (λ (x : Pairs). MapWithOne (find_in l) (find_in x) c.args.n c.args.place) (sym c.in-Ok.ensures.items)
    (pushed_adds l c.args.n c.args.place c.self.invariant above))
