use Rattle.std.proofs.Common.{◌≡◌, ◌+◌, ◌^◌, ◌≤◌, ◌++◌, List, arith, Some, refl, sym, ap, ◌∙◌, subst, replicate}
use Rattle.rpm_pkgdb.proofs.Vocabulary.{AllMoved, AreAllUsed, AreRangesOf, AreSound, CanAdd, free, grown, IsKept, IsRanged, Move, next_end, Page, Pairs, Slot}
use Rattle.rpm_pkgdb.proofs.Vocabulary.{Store}
use Rattle.rpm_pkgdb.proofs.PlannedLaws.{ranges_behind, all_sound}
use Rattle.rpm_pkgdb.proofs.store.PkgDb.plan_page.Goals as goal

module _ (v : Store) (all_used : AreAllUsed v.slots) (numbers : Pairs) (kept : IsKept numbers v.pages v.slots) (made : 1 ≤ v.pages) (old new : Page)
    (moved : AllMoved v.slots (next_end v) old) (ranged : IsRanged v.pages old) (moves : new.moves ≡ old.moves)
    (slots : new.slots.items ≡ old.slots.items ++ replicate 256 free) (ranges : new.used.ranges ≡ old.used.ranges) where
  can : CanAdd v old.moves.items
  can = record { all_used = all_used; are = moved.moves; behind = moved.behind }

  now_can : CanAdd v new.moves.items
  now_can = subst (λ (m : List Move). CanAdd v m) (sym (ap (λ m. m.items) moves)) can

  now_slots : new.slots.items ≡ (grown (Some old.moves.items) v).slots
  now_slots = slots ∙ ap (λ (l : List Slot). l ++ replicate 256 free) moved.slots_are

  now_slots_too : new.slots.items ≡ (grown (Some new.moves.items) v).slots
  now_slots_too = subst (λ (m : List Move). new.slots.items ≡ (grown (Some m) v).slots) (sym (ap (λ m. m.items) moves)) now_slots

  now_ranges : AreRangesOf new.used.ranges new.slots.items
  now_ranges =
      subst (λ (l : List Slot). AreRangesOf new.used.ranges l) (sym now_slots)
      (subst (λ r. AreRangesOf r (grown (Some old.moves.items) v).slots) (sym ranges)
      (ranges_behind numbers v kept made old.moves.items can old.used.ranges (subst (AreRangesOf old.used.ranges) moved.slots_are ranged.ranges)))

  now_ranged : IsRanged (v.pages + 1) new
  now_ranged = record {
    some = omega arith;
    sound = subst (AreSound (v.pages + 1) (2 ^ 28)) (sym now_slots) (all_sound numbers v kept made old.moves.items can);
    ranges = now_ranges;
  }

pub returns-clause-page : goal.returns-clause-page
returns-clause-page c =
    let v = c.args.self.now in
    let kept = subst (λ (x : Store). IsKept c.self.inside.numbers.pairs x.pages x.slots) c.self.view_is c.self.invariant.kept in
    let old = c.in_ok-page.page in
    let new = c.add_slots.new.self in
    let e = c.in_ok-add_slots.ensures in (
      (refl, now_can v c.requires.all _ kept c.requires.made old new c.in_ok-page.ensures.page c.in_ok-page.ensures.ranged e.moves e.slots e.ranges),
      (
        now_slots_too v c.requires.all _ kept c.requires.made old new c.in_ok-page.ensures.page c.in_ok-page.ensures.ranged e.moves e.slots e.ranges,
        now_ranges v c.requires.all _ kept c.requires.made old new c.in_ok-page.ensures.page c.in_ok-page.ensures.ranged e.moves e.slots e.ranges,
        e.room,
      ),
    )

pub returns-clause-ranged : goal.returns-clause-ranged
returns-clause-ranged c =
    let v = c.args.self.now in
    let kept = subst (λ (x : Store). IsKept c.self.inside.numbers.pairs x.pages x.slots) c.self.view_is c.self.invariant.kept in
    let e = c.in_ok-add_slots.ensures in
    now_ranged v c.requires.all _ kept c.requires.made c.in_ok-page.page c.add_slots.new.self c.in_ok-page.ensures.page c.in_ok-page.ensures.ranged e.moves
    e.slots e.ranges
