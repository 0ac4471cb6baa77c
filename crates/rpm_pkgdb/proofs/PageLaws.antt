-- What is planned of a slot page, one move more.
use Rattle.std.proofs.Common.{◌≡◌, ◌≢◌, inl, inr, ℕ, ◌+◌, ◌*◌, ◌^◌, ◌<◌, ◌≤◌, List, [], ◌∷◌, ◌++◌, length, true, false, refl, sym, ap, ◌∙◌, subst, arith, set, length-set}
use Rattle.std.specs.Prelude.{Contains}
use Rattle.std.proofs.lemmas.Bool.{cases_eq}
use Rattle.std.proofs.lemmas.Bool.Decides.{nat_tests}
use Rattle.std.proofs.lemmas.List.Sums.{sum_by-set}
use Rattle.rpm_pkgdb.proofs.Vocabulary.{after_move, after_moves, AllMoved, AreBehind, AreMoves, AreRangesOf, AreSound, CanSet, CantMove, count_before}
use Rattle.rpm_pkgdb.proofs.Vocabulary.{FitsNowhere, free, is_used, IsFirstBefore, IsLeast, IsNextMove, IsPlanning, Move, moved_slot, one_before, Page, Range}
use Rattle.rpm_pkgdb.proofs.Vocabulary.{range, range_of_slot, Slot, slot_at, Store, with_range, with_range_here, with_range_keeps, with_range_only, without}
use Rattle.rpm_pkgdb.proofs.Vocabulary.{without_keeps, without_only}
use Rattle.rpm_pkgdb.proofs.ClearLaws.{set_here, set_other}
use Rattle.rpm_pkgdb.proofs.RangeLaws.{other_start}
use Rattle.rpm_pkgdb.proofs.SettingLaws.{set_sound}

-- ---- one move more

module _ (pages : ℕ) (slots : List Slot) (sound : AreSound pages (2 ^ 28) slots) (place end to : ℕ) (low : 256 * pages ≤ end)
    (first : IsFirstBefore slots end place) (least : IsLeast slots (slot_at slots place).count end to) (some : 1 ≤ pages) where
  abbrev old : Slot
  old = slot_at slots place

  abbrev new : Slot
  new = moved_slot (slot_at slots place) to

  used_new : is_used new ≡ true
  used_new = let far : to ≢ 0 = omega (arith, some, low, least.from_on) in grind (arith, nat_tests)

  pub moved_sound : AreSound pages (2 ^ 28) (set slots place new)
  moved_sound =
      let p = sound.placed place first.used in
      let st : Store = record { generation = 0; pages = pages; field = 0; slots = slots; spare = 0; is_stopped = false } in
      let can : CanSet st place new = record {
        made = some;
        below = first.below;
        number = (p.number, p.few);
        others = λ j differs used same. (sound.apart j place differs used first.used).numbers (sym same);
        behind = omega (arith, low, least.from_on);
        some = p.some;
        fits = least.fits;
      } in
      set_sound st place new can (2 ^ 28) least.fits.ends sound

  starts_differ : to ≢ old.offset
  starts_differ same = omega (arith, least.from_on, first.before)

  pub moved_ranges : (a b c : List Range) → AreRangesOf a slots → b ≡ with_range (range to old.count) a → c ≡ without old.offset b
      → AreRangesOf c (set slots place new)
  moved_ranges a b c are added gone =
      let new_at : slot_at (set slots place new) place ≡ new = set_here pages (2 ^ 28) slots sound place first.below new in
      let stays : (j : ℕ) → j ≢ place → slot_at (set slots place new) j ≡ slot_at slots j = set_other pages (2 ^ 28) slots sound place first.below new in
      let there_new : Contains b (range_of_slot new) = subst (λ (l : List Range). Contains l (range_of_slot new)) (sym added)
      (with_range_here (range_of_slot new) a) in
      record {
        each = λ j used. subst (λ (l : List Range). Contains l (range_of_slot (slot_at (set slots place new) j))) (sym gone) (elim (cases_eq j place) [
          | inl here ↦ subst (λ (t : Slot). Contains (without old.offset b) (range_of_slot t)) (sym (ap (slot_at (set slots place new)) here ∙ new_at))
              (without_keeps old.offset (range_of_slot new) b starts_differ there_new)
          | inr other ↦
              (let was : is_used (slot_at slots j) ≡ true = ap is_used (sym (stays j other)) ∙ used in
              let there : Contains b (range_of_slot (slot_at slots j)) = subst (λ (l : List Range). Contains l (range_of_slot (slot_at slots j))) (sym added)
              (with_range_keeps (range_of_slot new) (range_of_slot (slot_at slots j)) a (are.each j was)) in
              subst (λ (t : Slot). Contains (without old.offset b) (range_of_slot t)) (sym (stays j other))
              (without_keeps old.offset (range_of_slot (slot_at slots j)) b (other_start pages slots sound j place other was first.used) there))
        ]);
        only = λ x there.
            let w = without_only old.offset x b (subst (λ (l : List Range). Contains l x) gone there) in
            elim (with_range_only (range_of_slot new) x a (subst (λ (l : List Range). Contains l x) added w.1)) [
              | inl here ↦ record { at = place; used = ap is_used new_at ∙ used_new; is = here ∙ ap range_of_slot (sym new_at) }
              | inr was ↦
                  (let u = are.only x was in
                  let other : u.at ≢ place = λ here. w.0 (ap (λ (r : Range). r.start) u.is ∙ ap (λ (i : ℕ). (slot_at slots i).offset) here) in
                  record { at = u.at; used = ap is_used (stays u.at other) ∙ u.used; is = u.is ∙ ap range_of_slot (sym (stays u.at other)) })
            ];
      }

-- the move is the next one
pub next_move : (slots : List Slot) (pages end place to : ℕ) → AreSound pages (2 ^ 28) slots → IsFirstBefore slots end place
    → IsLeast slots (slot_at slots place).count end to → IsNextMove slots end (record { place = place; to = to })
next_move slots pages end place to sound first least = record {
  used = first.used;
  before = first.before;
  first = λ j other used.
      let le = first.first j used in
      let differ = other_start pages slots sound j place other used first.used in
      let apart : (slot_at slots place).offset ≢ (slot_at slots j).offset = λ same. differ (sym same) in
      omega arith;
  least = least;
}

moves_then : (slots : List Slot) (end : ℕ) (moves : List Move) (m : Move) → AreMoves slots end moves → IsNextMove (after_moves slots moves) end m
    → AreMoves slots end (moves ++ m ∷ [])
moves_then slots end [] m are next = (next, tt)
moves_then slots end (x ∷ moves) m are next = (are.0, moves_then (after_move slots x) end moves m are.1 next)

after_then : (slots : List Slot) (moves : List Move) (m : Move) → after_moves slots (moves ++ m ∷ []) ≡ after_move (after_moves slots moves) m
after_then slots [] m = refl
after_then slots (x ∷ moves) m = after_then (after_move slots x) moves m

pub record Planned (slots : List Slot) (end : ℕ) (moves : List Move) (now : List Slot) : Type 0 where
  pub are : AreMoves slots end moves
  pub slots_are : now ≡ after_moves slots moves

pub planning_more : (slots : List Slot) (end : ℕ) (moves : List Move) (now : List Slot) (pages place to : ℕ) → AreSound pages (2 ^ 28) now
    → AreMoves slots end moves → now ≡ after_moves slots moves → IsFirstBefore now end place → IsLeast now (slot_at now place).count end to
    → Planned slots end (moves ++ (record { place = place; to = to }) ∷ []) (set now place (moved_slot (slot_at now place) to))
planning_more slots end moves now pages place to sound are slots_are first least =
    let m : Move = record { place = place; to = to } in
    let next : IsNextMove now end m = next_move now pages end place to sound first least in
    record {
      are = moves_then slots end moves m are (subst (λ (l : List Slot). IsNextMove l end m) slots_are next);
      slots_are = ap (λ (l : List Slot). after_move l m) slots_are ∙ sym (after_then slots moves m);
    }

-- a range that is moved after the block no longer begins before it
pub one_less : (slots : List Slot) (end place to : ℕ) → IsFirstBefore slots end place → end ≤ to
    → count_before end (set slots place (moved_slot (slot_at slots place) to)) + 1 ≡ count_before end slots
unfolding count_before
one_less slots end place to first far =
    let was : one_before end (slot_at slots place) ≡ 1 = (let used = first.used in let before = first.before in grind (arith, nat_tests)) in
    let now : one_before end (moved_slot (slot_at slots place) to) ≡ 0 = grind (arith, nat_tests) in
    omega (arith, sum_by-set (one_before end) slots place (moved_slot (slot_at slots place) to) free first.below, was, now)

pub fewer_before : (slots : List Slot) (end place to : ℕ) → IsFirstBefore slots end place → end ≤ to
    → count_before end (set slots place (moved_slot (slot_at slots place) to)) < count_before end slots
fewer_before slots end place to first far = omega (arith, one_less slots end place to first far)

pub count_after : (slots : List Slot) (moves : List Move) → length (after_moves slots moves) ≡ length slots
count_after slots [] = refl
count_after slots (m ∷ moves) = count_after (after_move slots m) moves ∙ length-set slots m.place (moved_slot (slot_at slots m.place) m.to)

module _ (slots : List Slot) (end : ℕ) (page : Page) (planning : IsPlanning slots end page) where
  pub cant_move : (place : ℕ) → IsFirstBefore page.slots.items end place
      → FitsNowhere page.slots.items (slot_at page.slots.items place).count end → CantMove slots end
  cant_move place first nowhere =
      let now = subst (λ (l : List Slot). IsFirstBefore l end place) planning.slots_are first in
      record {
        moves = page.moves.items;
        are = planning.moves;
        place = place;
        used = now.used;
        before = now.before;
        first = now.first;
        nowhere = subst (λ (l : List Slot). FitsNowhere l (slot_at l place).count end) planning.slots_are nowhere;
      }

  pub all_moved : AreBehind page.slots.items end → AllMoved slots end page
  all_moved behind = record {
    moves = planning.moves;
    slots_are = planning.slots_are;
    behind = subst (λ (l : List Slot). AreBehind l end) planning.slots_are behind;
  }
