use Rattle.std.proofs.Common.{◌≡◌, ◌-◌, ◌≤◌, List, false, sym, ap, subst, arith, set}
use Rattle.rpm_pkgdb.proofs.Vocabulary.{AreUsedTo, HasUsed, IsFreeIn, IsKept, IsTarget, HasRange, Slot, slot_at, slot_for, Store}
use Rattle.rpm_pkgdb.proofs.Noted.{above_all, fits_free, has_old_start, says, noted_kept, noted_used, noted_taken}
use Rattle.rpm_pkgdb.proofs.store.PkgDb.note_put.Goals as goal

pub note_number-requires-clause-above : goal.note_number-requires-clause-above
note_number-requires-clause-above c =
    let target = c.args.target.now in
    let is = subst (λ (v : Store). IsTarget v target) (sym c.self.view_is) c.requires.target in
    let made = subst (λ (v : Store). 1 ≤ v.pages) (sym c.self.view_is) c.requires.made in
    above_all c.self.inside.numbers.pairs _ target is made c.self.invariant.kept

pub remember-requires-clause-free : goal.remember-requires-clause-free
remember-requires-clause-free c =
    let target = c.args.target.now in
    let i = c.self.inside in
    let is = subst (λ (v : Store). IsTarget v target) (sym c.self.view_is) c.requires.target in
    let made = subst (λ (v : Store). 1 ≤ v.pages) (sym c.self.view_is) c.requires.made in
    let room = subst (λ (v : Store). 1 ≤ v.spare) (sym c.self.view_is) c.requires.room in
    subst (λ (t : Slot). IsFreeIn t i.used) (sym c.slot-slot.ensures)
    (fits_free i.numbers.pairs _ target is made c.self.invariant.kept i.used i.spare c.self.invariant.used room)

pub forget_slot-requires : goal.forget_slot-requires
forget_slot-requires c =
    let target = c.args.target.now in
    let i = c.self.inside in
    let is = subst (λ (v : Store). IsTarget v target) (sym c.self.view_is) c.requires.target in
    let made = subst (λ (v : Store). 1 ≤ v.pages) (sym c.self.view_is) c.requires.made in
    let held = subst (λ (v : Store). target.is_new ≡ false → c.args.old ≡ slot_at v.slots target.place) (sym c.self.view_is) c.requires.old.held in
    has_old_start i.numbers.pairs _ target is made c.self.invariant.kept c.args.old c.requires.old.new held i.used c.remember.new.used i.spare
    c.self.invariant.used (subst (λ (t : Slot). HasRange t i.used c.remember.new.used) c.slot-slot.ensures c.remember.ensures)

pub invariant_of-self : goal.invariant_of-self
invariant_of-self c =
    let target = c.args.target.now in
    let i = c.self.inside in
    let is = subst (λ (v : Store). IsTarget v target) (sym c.self.view_is) c.requires.target in
    let made = subst (λ (v : Store). 1 ≤ v.pages) (sym c.self.view_is) c.requires.made in
    let held = subst (λ (v : Store). target.is_new ≡ false → c.args.old ≡ slot_at v.slots target.place) (sym c.self.view_is) c.requires.old.held in
    let after : set i.slots.items target.place c.slot-slot.result ≡ set i.slots.items target.place (slot_for target) =
    ap (set i.slots.items target.place) c.slot-slot.ensures in
    let now = says i.numbers.pairs _ target is made c.self.invariant.kept c.note_number.new.numbers.pairs c.note_number.ensures.new
    c.note_number.ensures.held in
    record {
      kept =
          subst (IsKept c.note_number.new.numbers.pairs i.pages) (sym after)
          (noted_kept i.numbers.pairs _ target is made c.self.invariant.kept c.note_number.new.numbers.pairs now);
      blank = λ none. absurd (omega (arith, made));
      used = subst (HasUsed c.forget_slot.new.used (i.spare - 1)) (sym after)
          (noted_used i.numbers.pairs _ target is made c.self.invariant.kept c.args.old c.requires.old.new held i.used c.remember.new.used
          c.forget_slot.new.used
          i.spare c.self.invariant.used (subst (λ (t : Slot). HasRange t i.used c.remember.new.used) c.slot-slot.ensures c.remember.ensures)
          c.forget_slot.ensures);
      room = omega (arith, c.self.invariant.room, c.note_number.ensures.room);
      one = omega (arith, c.self.invariant.one);
      taken =
          subst (λ (l : List Slot). AreUsedTo l c.free_after-self-inside.result) (sym after)
          (noted_taken i.numbers.pairs _ target is made c.self.invariant.kept i.free_from c.free_after-self-inside.result c.self.invariant.taken
          c.free_after-self-inside.ensures.new c.free_after-self-inside.ensures.held);
    }
