use Rattle.std.proofs.Common.{◌≡◌, List, replicate, refl, sym, ap, subst, ◌∙◌, arith}
use Rattle.rpm_pkgdb.proofs.Vocabulary.{free, HasUsed, IsKept, IsWritten, made_new, Slot, Store}
use Rattle.rpm_pkgdb.proofs.Makes.{new_map}
use Rattle.rpm_pkgdb.proofs.News.{new_kept, new_used, new_slots, none_taken}
use Rattle.std.specs.FinMap as finite
use Rattle.rpm_pkgdb.proofs.Written.{written}
use Rattle.rpm_pkgdb.proofs.store.PkgDb.make.Goals as goal

pub invariant_of-self-2 : goal.invariant_of-self-2
invariant_of-self-2 g c =
    let i = c.self.inside in
    let none : i.pages ≡ 0 = ap (λ (v : Store). v.pages) c.self.view_is ∙ c.requires.blank in
    let kept : IsKept i.numbers.pairs i.pages i.slots.items = c.self.invariant.kept in
    let is : c.add_free.new.slots.items ≡ replicate 254 free =
    new_slots i.numbers.pairs i.pages i.slots.items kept none c.add_free.new.slots.items c.add_free.ensures.items in
    record {
      kept = subst (IsKept i.numbers.pairs 1) (sym is) (new_kept i.numbers.pairs i.pages i.slots.items kept none);
      blank = λ zero. absurd (omega arith);
      used = subst (HasUsed i.used i.spare) (sym is) (new_used i.numbers.pairs i.pages i.slots.items kept none i.used i.spare c.self.invariant.used);
      room = c.self.invariant.room;
      one = c.self.invariant.one;
      taken = λ k below. absurd (none_taken i.numbers.pairs i.pages i.slots.items kept none k (c.self.invariant.taken k below));
    }

pub returns-clause-made : goal.returns-clause-made
returns-clause-made g c = λ told.
    let D = g.D.Disk in
    let i = c.self.inside in
    let none : i.pages ≡ 0 = ap (λ (v : Store). v.pages) c.self.view_is ∙ c.requires.blank in
    let is = new_slots i.numbers.pairs i.pages i.slots.items c.self.invariant.kept none c.add_free.new.slots.items c.add_free.ensures.items in
    let next = c.write_new.new.disk in
    let one : Store = record { generation = 1; pages = 1; field = 1; slots = replicate 254 free; spare = i.spare; is_stopped = i.stopped } in
    record {
      written =
          subst (λ (l : List Slot). IsWritten D next (record one { slots = l }) finite.empty) (sym is)
          (written D next one finite.empty (omega arith) (c.in-Ok.ensures.keeps told one) (c.in-Ok.ensures.quiet told one)
          (new_map one (D.files next).pkg refl));
      next = c.in-Ok.ensures.next told;
      reach = omega (arith, (c.write_new.ensures.writes.changes.pkg told).no_longer);
    }

pub returns-clause-ok : goal.returns-clause-ok
returns-clause-ok g c =
    let i = c.self.inside in
    let none : i.pages ≡ 0 = ap (λ (v : Store). v.pages) c.self.view_is ∙ c.requires.blank in
    let is = new_slots i.numbers.pairs i.pages i.slots.items c.self.invariant.kept none c.add_free.new.slots.items c.add_free.ensures.items in
    let one : Store = record { generation = 1; pages = 1; field = 1; slots = replicate 254 free; spare = i.spare; is_stopped = i.stopped } in
    ap (λ (l : List Slot). record one { slots = l }) is ∙ ap made_new c.self.view_is
