use Rattle.std.proofs.Common.{◌≡◌, ℕ, ◌≤◌, Option, ap, sym, ◌∙◌, subst, arith, Err, is_none}
use Rattle.rpm_pkgdb.proofs.Vocabulary.{IsKept, placement, placed_spare, Store, StoreFull, with_spare}
use Rattle.rpm_pkgdb.proofs.PlacedRules.{plan_placed, full_placed}
use Rattle.rpm_pkgdb.proofs.FullLaws.{not_full, same_full}
use Rattle.rpm_pkgdb.proofs.store.PkgDb.plan.Goals as goal

module _ (old mid : Store) (same : mid ≡ with_spare mid.spare old) (n : Option ℕ) (size : ℕ) where
  no_other : placement n size old ≡ placement n size mid
  no_other = sym (placed_spare n size mid.spare old) ∙ ap (placement n size) (sym same)

pub returns-in-Ok-clause-planned : goal.returns-in-Ok-clause-planned
returns-in-Ok-clause-planned c =
    let mid = c.prepare.new.self in
    let same = c.prepare.ensures.value.same in
    let plan = c.in-Ok.plan in
    let is = c.in-Ok.ensures in
    let kept = subst (λ (x : Store). IsKept c.self-2.inside.numbers.pairs x.pages x.slots) c.self-2.view_is c.self-2.invariant.kept in
    let some : 1 ≤ mid.pages = omega (arith, ap (λ (v : Store). v.pages) same, c.requires.made) in
    record {
      room = c.in_ok-prepare.ensures.room;
      plan_is = is.plan;
      asked = is.asked;
      fits = λ full.
          not_full mid c.args.n c.args.length plan is.plan is.asked
          (same_full c.args.self.now mid (is_none c.args.n) c.args.length (sym (ap (λ (v : Store). v.slots) same)) (sym (ap (λ (v : Store). v.pages) same))
          full);
      placed_is =
          no_other c.args.self.now mid same c.args.n c.args.length ∙ plan_placed _ mid kept some c.args.n c.args.length plan is.plan is.asked;
    }

pub returns-in-Err-clause-full : goal.returns-in-Err-clause-full
returns-in-Err-clause-full c = λ full.
    let fault : c.in-Err.fault ≡ StoreFull = cc in
    let mid = c.prepare.new.self in
    let same = c.prepare.ensures.value.same in
    let kept = subst (λ (x : Store). IsKept c.self-2.inside.numbers.pairs x.pages x.slots) c.self-2.view_is c.self-2.invariant.kept in
    let some : 1 ≤ mid.pages = omega (arith, ap (λ (v : Store). v.pages) same, c.requires.made) in
    let is = c.in-Err.ensures.full (ap Err fault) in
    record {
      full = same_full mid c.args.self.now (is_none c.args.n) c.args.length (ap (λ (v : Store). v.slots) same) (ap (λ (v : Store). v.pages) same) is;
      nowhere = no_other c.args.self.now mid same c.args.n c.args.length ∙ full_placed _ mid kept some c.args.n c.args.length is;
    }
