use Rattle.std.proofs.Common.{◌≡◌, ◌+◌, ◌≤◌, Option, Some, sym, subst, arith}
use Rattle.rpm_pkgdb.proofs.Vocabulary.{CanAdd, CanGrowBy, HoldsPage, IsKept, moves_of, Page, Store}
use Rattle.rpm_pkgdb.proofs.PlannedLaws.{all_kept}
use Rattle.rpm_pkgdb.proofs.store.PkgDb.note_page.Goals as goal

module _ (v : Store) (o : Option Page) (p : Page) (is : o ≡ Some p) (can : CanGrowBy v (moves_of o)) (held : HoldsPage v o) where
  can_here : CanAdd v p.moves.items
  can_here = subst (λ (x : Option Page). CanGrowBy v (moves_of x)) is can

  held_here : HoldsPage v (Some p)
  held_here = subst (HoldsPage v) is held

pub invariant_of-self : goal.invariant_of-self
invariant_of-self c =
    let i = c.self.inside in
    let p = c.in-Some.page in
    let can = subst (λ (v : Store). CanGrowBy v (moves_of c.args.page)) (sym c.self.view_is) c.requires.can in
    let held = subst (λ (v : Store). HoldsPage v c.args.page) (sym c.self.view_is) c.requires.held in
    let made = subst (λ (v : Store). 1 ≤ v.pages) (sym c.self.view_is) c.requires.made in
    let can_p = can_here _ c.args.page p c.in-Some.is can held in
    let held_p = held_here _ c.args.page p c.in-Some.is can held in
    record {
      kept =
          subst (IsKept i.numbers.pairs (i.pages + 1)) (sym held_p.0) (all_kept i.numbers.pairs _ c.self.invariant.kept made p.moves.items can_p);
      blank = λ none. absurd (omega arith);
      used = (held_p.1, omega (arith, c.self.invariant.one, held_p.2));
      room = c.self.invariant.room;
      one = c.self.invariant.one;
      taken = λ k below. absurd (omega (arith, below));
    }
