use Rattle.std.proofs.Common.{◌≡◌, ℕ, length, Option, None, Some, sym, ap, subst, ◌∙◌, arith}
use Rattle.std.specs.FinMap as finite
use Rattle.rpm_outside.specs.declared.disk.Disk as disk
use Rattle.rpm_pkgdb.proofs.Vocabulary.{AreZeros, StoreBeforeOrAfter, blobs, ErasesTo, EraseCrashes, find_in, Forgets, HasSlot, is_used, IsErased, IsKept, IsPlaced}
use Rattle.rpm_pkgdb.proofs.Vocabulary.{KeepsStore, pkg, Slot, StaysBut, CrashLeavesFile, Store, with_free}
use Rattle.rpm_pkgdb.proofs.Changing.{crashes_weaker}
use Rattle.rpm_pkgdb.proofs.RangeLaws.{freed_used}
use Rattle.rpm_pkgdb.proofs.ErasesTo.{erases_to, freed_map}
use Rattle.rpm_pkgdb.proofs.StayLaws.{freed_stay}
use Rattle.rpm_pkgdb.proofs.LeftLaws.{erases_but}
use Rattle.rpm_pkgdb.proofs.Made.{made}
use Rattle.rpm_pkgdb.proofs.Held.{found_at_slot, freed_kept, freed_taken}
use Rattle.rpm_pkgdb.proofs.Written.{written}
use Rattle.rpm_pkgdb.proofs.store.PkgDb.erase.Goals as goal

-- what crashes leave while a slot is set free, of its number
crashes : {D : Type 0} (d : disk.Ghosts D) (a b : D) (st : Store) (k n : ℕ) (s : Slot) → HasSlot st k s → s.number ≡ n → KeepsStore (pkg d a) st
    → CrashLeavesFile d a b (StoreBeforeOrAfter st (with_free k st) (pkg d a)) → EraseCrashes d a b st n
crashes d a b st k n s has number keeps left = record {
  images =
      crashes_weaker d (StoreBeforeOrAfter st (with_free k st) (pkg d a)) (ErasesTo st n (pkg d a)) a b
      (erases_to st k n s has number (pkg d a) keeps) left;
  left =
      crashes_weaker d (StoreBeforeOrAfter st (with_free k st) (pkg d a)) (StaysBut n None st (pkg d a)) a b
      (erases_but st k n s has number (pkg d a) keeps) left;
}

pub returns-in_default-clause-crashes : goal.returns-in_default-clause-crashes
returns-in_default-clause-crashes g c = λ told quiet.
    let st = c.args.self.now in
    let slot = c.slot_place-place.ensures in
    crashes g.D.Disk c.args.disk.now c.free_slot.new.disk st c.slot_place-place.result.0 c.args.n c.slot_place-place.result.1 slot.slot slot.number
    (c.requires.keeps told) (c.free_slot.ensures.images told st slot.slot quiet)

pub returns-clause-crashes : goal.returns-clause-crashes
returns-clause-crashes g c = λ told quiet.
    let st = c.args.self.now in
    let slot = c.slot_place-place.ensures in
    crashes g.D.Disk c.args.disk.now c.free_slot.new.disk st c.slot_place-place.result.0 c.args.n c.slot_place-place.result.1 slot.slot slot.number
    (c.requires.keeps told) (c.free_slot.ensures.images told st slot.slot quiet)

pub invariant_of-self-2 : goal.invariant_of-self-2
invariant_of-self-2 g c =
    let i = c.self.inside in
    let k = c.slot_place-place.result.0 in
    let s = c.slot_place-place.result.1 in
    let has : HasSlot _ k s = subst (λ (v : Store). HasSlot v k s) (sym c.self.view_is) c.slot_place-place.ensures.slot in
    let kept : IsKept i.numbers.pairs i.pages i.slots.items = c.self.invariant.kept in
    let found : find_in i.numbers.pairs c.args.n ≡ Some k =
    found_at_slot i.numbers.pairs i.pages i.slots.items kept c.args.n k has.below s has.is has.used c.slot_place-place.ensures.number in
    record {
      kept = freed_kept i.numbers.pairs i.pages i.slots.items kept c.args.n k found c.remove.new.self.pairs c.remove.ensures.drops;
      blank = λ none. absurd (omega (arith, has.made));
      used =
          freed_used i.pages i.slots.items kept.sound k (ap is_used has.is ∙ has.used) i.used c.forget.new.used i.spare c.self.invariant.used
          (subst (λ (t : Slot). Forgets t.offset i.used c.forget.new.used) (sym has.is) c.forget.ensures);
      room = omega (arith, c.self.invariant.room, c.remove.ensures.room);
      one = c.self.invariant.one;
      taken = freed_taken i.pages i.slots.items kept.sound k has.below i.free_from _ c.self.invariant.taken c.min-self-inside.ensures;
    }

pub returns-clause-erased : goal.returns-clause-erased
returns-clause-erased g c = λ told.
    let D = g.D.Disk in
    let st = c.args.self.now in
    let n = c.args.n in
    let k = c.slot_place-place.result.0 in
    let s = c.slot_place-place.result.1 in
    let slot = c.slot_place-place.ensures in
    let has = slot.slot in
    let next = c.free_slot.new.disk in
    let F0 = (D.files c.args.disk.now).pkg in
    let F1 = (D.files next).pkg in
    let keeps = c.requires.keeps told in
    let e = c.in-Ok.ensures.freed told in
    let stands = e.stands st has keeps in
    let is = made F0 st keeps has.made in
    let placed = subst (IsPlaced st.pages (length F0)) has.is (is.sound.placed k (ap is_used has.is ∙ has.used)) in
    subst (λ (v : Store). IsErased D c.args.disk.now next st v n) (sym (ap (with_free k) c.self.view_is)) (record {
      written =
          written D next (with_free k st) (finite.remove (blobs F0 st) n) has.made stands.keeps (e.quiet st has keeps)
          (freed_map st k n s has slot.number F0 keeps F1 stands);
      others = freed_stay st k n s has slot.number F0 F1 keeps stands;
      zeros = subst (λ (o : Option Slot). AreZeros o F1) (sym slot.found) e.zeros;
      blanks = λ i low aside was. e.blanks i (omega (arith, has.below, is.count, low, has.made)) aside was;
      next = e.next (omega (arith, placed.behind, has.made));
      reach = e.reach (length F0) (omega (arith, has.below, is.count, is.lawful.inside)) placed.inside (omega arith);
    })
