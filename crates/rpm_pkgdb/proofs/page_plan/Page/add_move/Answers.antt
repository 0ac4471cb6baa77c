use Rattle.std.proofs.Common.{◌≡◌, ℕ, ◌^◌, List, Some, None, sym, ap, ◌∙◌, subst, set}
use Rattle.std.specs.Prelude.{Contains, SomeIndex, true}
use Rattle.rpm_pkgdb.proofs.Vocabulary.{after_moves, AreMoves, AreRangesOf, AreSound, begins_in, is_used, IsFree, IsLeast, IsLeastFit, IsRanged, moved_slot, Page}
use Rattle.rpm_pkgdb.proofs.Vocabulary.{Range, range, range_at, range_of_slot, Slot, slot_at, with_range, with_range_keeps, without}
use Rattle.rpm_pkgdb.proofs.PlanLaws.{least_from}
use Rattle.rpm_pkgdb.proofs.PageLaws.{moved_sound, moved_ranges, planning_more}
use Rattle.rpm_pkgdb.proofs.page_plan.Page.add_move.Goals as goal

-- the least place among the slots
least_of : (pages : ℕ) (page : Page) → IsRanged pages page → (place end to count : ℕ) → is_used (slot_at page.slots.items place) ≡ true
    → count ≡ (slot_at page.slots.items place).count
    → IsLeastFit page.used.ranges count end (Some to) → IsLeast page.slots.items (slot_at page.slots.items place).count end to
least_of pages page r place end to count used is least =
    least_from pages page.used.ranges page.slots.items r.sound r.ranges (slot_at page.slots.items place).count (r.sound.placed place used).some end (Some to)
    (subst (λ (n : ℕ). IsLeastFit page.used.ranges n end (Some to)) is least)

pub returns-in-None-clause-full : goal.returns-in-None-clause-full
returns-in-None-clause-full c = λ full block le fits.
    let p = c.args.self.now in
    let place = c.args.place in
    let s = slot_at p.slots.items place in
    let is : c.at-slot.result ≡ s = c.at-slot.ensures ∙ ap (λ (l : List Slot). slot_at l place) c.deref.ensures.value in
    let r = c.requires.ranged.2 in
    let none : IsLeastFit p.used.ranges s.count c.args.end None = subst (λ (t : Slot). IsLeastFit p.used.ranges t.count c.args.end None) is
    c.in-None.ensures.least in
    least_from c.requires.ranged.0 p.used.ranges p.slots.items r.sound r.ranges s.count (r.sound.placed place c.requires.first.used).some c.args.end None
    none block le fits

pub insert-requires-clause-free : goal.insert-requires-clause-free
insert-requires-clause-free c =
    subst (λ (l : List Range). IsFree l (range c.in-Some.to c.at-slot.result.count)) (sym c.reserve.ensures.ranges) c.in-Some.ensures.least.1.free

pub remove-requires : goal.remove-requires
remove-requires c =
    let p = c.args.self.now in
    let place = c.args.place in
    let s = slot_at p.slots.items place in
    let is : c.at-slot.result ≡ s = c.at-slot.ensures ∙ ap (λ (l : List Slot). slot_at l place) c.deref.ensures.value in
    let r = c.requires.ranged.2 in
    let there : Contains c.reserve.new.self.ranges (range_of_slot s) = subst (λ (l : List Range). Contains l (range_of_slot s)) (sym c.reserve.ensures.ranges)
    (r.ranges.each place c.requires.first.used) in
    let after : Contains c.insert.new.self.ranges (range_of_slot s) = subst (λ (l : List Range). Contains l (range_of_slot s)) (sym c.insert.ensures.ranges)
    (with_range_keeps (range c.in-Some.to c.at-slot.result.count) (range_of_slot s) c.reserve.new.self.ranges there) in
    subst (λ (t : Slot). SomeIndex c.insert.new.self.ranges (λ i. (range_at c.insert.new.self.ranges i).start ≡ t.offset)) (sym is)
    (begins_in c.insert.new.self.ranges (range_of_slot s) after)

pub returns-clause-ranged : goal.returns-clause-ranged
returns-clause-ranged c = λ pages low r.
    let p = c.args.self.now in
    let place = c.args.place in
    let s = slot_at p.slots.items place in
    let is : c.at-slot.result ≡ s = c.at-slot.ensures ∙ ap (λ (l : List Slot). slot_at l place) c.deref.ensures.value in
    let least = least_of pages p r place c.args.end c.in-Some.to c.at-slot.result.count c.requires.first.used (ap (λ (t : Slot). t.count) is)
    c.in-Some.ensures.least in
    let to = c.in-Some.to in
    record {
      some = r.some;
      sound = subst (λ (t : Slot). AreSound pages (2 ^ 28) (set p.slots.items place (moved_slot t to))) (sym is)
          (moved_sound pages p.slots.items r.sound place c.args.end to low c.requires.first least r.some);
      ranges = subst (λ (t : Slot). AreRangesOf c.remove.new.self.ranges (set p.slots.items place (moved_slot t to))) (sym is)
          (moved_ranges pages p.slots.items r.sound place c.args.end to low c.requires.first least r.some p.used.ranges c.insert.new.self.ranges
          c.remove.new.self.ranges r.ranges
          (c.insert.ensures.ranges ∙ ap (with_range (range to c.at-slot.result.count)) c.reserve.ensures.ranges ∙ ap
          (λ (t : Slot). with_range (range to t.count) p.used.ranges) is)
          (c.remove.ensures.ranges ∙ ap (λ (t : Slot). without t.offset c.insert.new.self.ranges) is));
    }

pub returns-clause-planning : goal.returns-clause-planning
returns-clause-planning c = λ slots planning.
    let p = c.args.self.now in
    let place = c.args.place in
    let end = c.args.end in
    let s = slot_at p.slots.items place in
    let is : c.at-slot.result ≡ s = c.at-slot.ensures ∙ ap (λ (l : List Slot). slot_at l place) c.deref.ensures.value in
    let r = c.requires.ranged.2 in
    let pages = c.requires.ranged.0 in
    let to = c.in-Some.to in
    let least = least_of pages p r place end to c.at-slot.result.count c.requires.first.used (ap (λ (t : Slot). t.count) is) c.in-Some.ensures.least in
    let more = planning_more slots end p.moves.items p.slots.items pages place to r.sound planning.moves planning.slots_are c.requires.first least in
    record {
      moves = subst (AreMoves slots end) (sym c.in_ok-push.ensures.items) more.are;
      slots_are = ap (λ (t : Slot). set p.slots.items place (moved_slot t to)) is ∙ more.slots_are ∙ ap (after_moves slots) (sym c.in_ok-push.ensures.items);
    }

pub returns-clause-moved : goal.returns-clause-moved
returns-clause-moved c =
    let p = c.args.self.now in
    let place = c.args.place in
    let is : c.at-slot.result ≡ slot_at p.slots.items place = c.at-slot.ensures ∙ ap (λ (l : List Slot). slot_at l place) c.deref.ensures.value in
    (c.in-Some.to, c.in-Some.ensures.least.0, ap (λ (t : Slot). set p.slots.items place (moved_slot t c.in-Some.to)) is)
