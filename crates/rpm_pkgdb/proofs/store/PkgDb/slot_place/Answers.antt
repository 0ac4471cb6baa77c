use Rattle.std.proofs.Common.{◌≡◌, ◌^◌, ◌≤◌, Some, IsSome, sym, ap, subst, ◌∙◌, arith}
use Rattle.std.proofs.lemmas.List.{get_or_default}
use Rattle.rpm_pkgdb.proofs.Vocabulary.{end_of, find_in, free, Slot, slot_at, slot_with, Store}
use Rattle.rpm_pkgdb.proofs.Held.{not_held, held_below, held_room, held_end, held_slot, held_number, held_package, held_with, held_erased}
use Rattle.rpm_pkgdb.proofs.store.PkgDb.slot_place.Goals as goal

pub unreachable-requires : goal.unreachable-requires
unreachable-requires c =
    let i = c.self.inside in
    not_held i.numbers.pairs i.pages i.slots.items c.self.invariant.kept c.args.n
    (subst (λ (s : Store). IsSome (slot_with c.args.n s.slots)) (sym c.self.view_is) c.requires) (sym c.place_of.ensures ∙ c.in_default.is)

pub index-requires : goal.index-requires
index-requires c =
    let i = c.self.inside in
    omega (arith, held_below i.numbers.pairs i.pages i.slots.items c.self.invariant.kept c.args.n c.in-Some.place (sym c.in-Some.ensures), i.slots.ok.0)

pub returns-clause-slot : goal.returns-clause-slot
returns-clause-slot c =
    let i = c.self.inside in
    let k = c.in-Some.place in
    let found : find_in i.numbers.pairs c.args.n ≡ Some k = sym c.in-Some.ensures in
    let s = c.index.result.now in
    let is : s ≡ slot_at i.slots.items k =
    c.index.ensures ∙ get_or_default i.slots.items k s free (held_below i.numbers.pairs i.pages i.slots.items c.self.invariant.kept c.args.n k found) in
    held_slot i.numbers.pairs i.pages i.slots.items c.self.invariant.kept c.args.n k found c.args.self.now s
    (ap (λ (v : Store). v.slots) (sym c.self.view_is)) (ap (λ (v : Store). v.pages) (sym c.self.view_is)) is

pub returns-clause-number : goal.returns-clause-number
returns-clause-number c =
    let i = c.self.inside in
    let k = c.in-Some.place in
    let found : find_in i.numbers.pairs c.args.n ≡ Some k = sym c.in-Some.ensures in
    let s = c.index.result.now in
    let is : s ≡ slot_at i.slots.items k =
    c.index.ensures ∙ get_or_default i.slots.items k s free (held_below i.numbers.pairs i.pages i.slots.items c.self.invariant.kept c.args.n k found) in
    held_number i.numbers.pairs i.pages i.slots.items c.self.invariant.kept c.args.n k found s is

pub returns-clause-found : goal.returns-clause-found
returns-clause-found c =
    let i = c.self.inside in
    let k = c.in-Some.place in
    let found : find_in i.numbers.pairs c.args.n ≡ Some k = sym c.in-Some.ensures in
    let s = c.index.result.now in
    let is : s ≡ slot_at i.slots.items k =
    c.index.ensures ∙ get_or_default i.slots.items k s free (held_below i.numbers.pairs i.pages i.slots.items c.self.invariant.kept c.args.n k found) in
    held_with i.numbers.pairs i.pages i.slots.items c.self.invariant.kept c.args.n k found c.args.self.now s
    (ap (λ (v : Store). v.slots) (sym c.self.view_is)) is

pub returns-clause-erased : goal.returns-clause-erased
returns-clause-erased c =
    let i = c.self.inside in
    held_erased i.numbers.pairs i.pages i.slots.items c.self.invariant.kept c.args.n c.in-Some.place (sym c.in-Some.ensures) c.args.self.now
    (ap (λ (v : Store). v.slots) (sym c.self.view_is))

pub returns-clause-room : goal.returns-clause-room
returns-clause-room c =
    let i = c.self.inside in
    held_room i.numbers.pairs i.pages i.slots.items c.self.invariant.kept c.args.n c.in-Some.place (sym c.in-Some.ensures)

pub returns-clause-end : goal.returns-clause-end
returns-clause-end c =
    let i = c.self.inside in
    let k = c.in-Some.place in
    let found : find_in i.numbers.pairs c.args.n ≡ Some k = sym c.in-Some.ensures in
    let s = c.index.result.now in
    let is : s ≡ slot_at i.slots.items k =
    c.index.ensures ∙ get_or_default i.slots.items k s free (held_below i.numbers.pairs i.pages i.slots.items c.self.invariant.kept c.args.n k found) in
    subst (λ (t : Slot). end_of t ≤ 2 ^ 28) (sym is) (held_end i.numbers.pairs i.pages i.slots.items c.self.invariant.kept c.args.n k found)

pub returns-clause-package : goal.returns-clause-package
returns-clause-package c =
    let i = c.self.inside in
    held_package i.numbers.pairs i.pages i.slots.items c.self.invariant.kept c.args.n c.in-Some.place (sym c.in-Some.ensures)
