-- What a slot page more keeps of a value.
use Rattle.std.proofs.Common.{◌≡◌, ◌≢◌, inl, inr, ℕ, zero, suc, ◌+◌, ◌*◌, ◌^◌, ◌≤◌, List, [], ◌∷◌, ◌++◌, length, replicate, max, true, false, Bool, Option, Some, None, if◌then◌else◌, refl, sym, ap, ◌∙◌, subst, arith, length-append}
use Rattle.std.specs.Prelude.{Contains}
use Rattle.std.proofs.lemmas.Bool.{cases_eq}
use Rattle.std.proofs.lemmas.Bool.Decides.{nat_tests}
use Rattle.std.proofs.lemmas.List.{length-replicate}
use Rattle.rpm_pkgdb.proofs.Vocabulary.{after_move, after_moves, AreMoves, AreRangesOf, AreSound, CanAdd, CanGrow, CanGrowBy, find_in, free, greatest_number}
use Rattle.rpm_pkgdb.proofs.Vocabulary.{grown, is_used, IsFirstBefore, IsFirstFree, IsKept, IsNextMove, IsPackageNumber, Move, moved_slot, NeedsPage, next_end}
use Rattle.rpm_pkgdb.proofs.Vocabulary.{next_number, Pairs, Range, range_of_slot, Slot, slot_at, Store, with_moves}
use Rattle.rpm_pkgdb.proofs.Facts.{number_facts, has_it_from}
use Rattle.rpm_pkgdb.proofs.Pairwise.{used_below}
use Rattle.rpm_pkgdb.proofs.ClearLaws.{set_here, set_other}
use Rattle.rpm_pkgdb.proofs.GrowLaws.{at_front, at_back, still_used, grown_sound}
use Rattle.rpm_pkgdb.proofs.PageLaws.{moved_sound, count_after}

-- ---- one move, and several

pub first_of : (slots : List Slot) (end : ℕ) (m : Move) → IsNextMove slots end m → IsFirstBefore slots end m.place
first_of slots end m next = record {
  below = used_below slots m.place next.used;
  used = next.used;
  before = next.before;
  first = λ j used. elim (cases_eq j m.place) [
    | inl same ↦ omega (arith, ap (λ (i : ℕ). (slot_at slots i).offset) same)
    | inr other ↦ omega (arith, next.first j other used)
  ];
}

-- used or not as before, and of the same number
pub record AreAlike (s t : Slot) : Type 0 where
  pub used : is_used s ≡ is_used t
  pub number : s.number ≡ t.number

alike_then : (s t u : Slot) → AreAlike s t → AreAlike t u → AreAlike s u
alike_then s t u a b = record { used = a.used ∙ b.used; number = a.number ∙ b.number }

module _ (pages end : ℕ) (some : 1 ≤ pages) (low : 256 * pages ≤ end) where
  used_to : (s : Slot) (to : ℕ) → end ≤ to → is_used (moved_slot s to) ≡ true
  used_to s to from = let far : to ≢ 0 = omega arith in grind (arith, nat_tests)

  module _ (slots : List Slot) (sound : AreSound pages (2 ^ 28) slots) (m : Move) (next : IsNextMove slots end m) where
    pub move_sound : AreSound pages (2 ^ 28) (after_move slots m)
    move_sound = moved_sound pages slots sound m.place end m.to low (first_of slots end m next) next.least some

    pub move_alike : (j : ℕ) → AreAlike (slot_at (after_move slots m) j) (slot_at slots j)
    move_alike j =
        let below = used_below slots m.place next.used in
        let s : Slot = moved_slot (slot_at slots m.place) m.to in
        elim (cases_eq j m.place) [
          | inl here ↦
              (let now : slot_at (after_move slots m) j ≡ s = ap (slot_at (after_move slots m)) here ∙ set_here pages (2 ^ 28) slots sound m.place below s in
              let was : slot_at slots j ≡ slot_at slots m.place = ap (slot_at slots) here in
              record {
                used = ap is_used now ∙ used_to (slot_at slots m.place) m.to next.least.from_on ∙ sym next.used ∙ ap is_used (sym was);
                number = ap (λ (t : Slot). t.number) now ∙ ap (λ (t : Slot). t.number) (sym was);
              })
          | inr other ↦
              (let stays = set_other pages (2 ^ 28) slots sound m.place below s j other in
              record { used = ap is_used stays; number = ap (λ (t : Slot). t.number) stays })
        ]

  pub moves_sound : (slots : List Slot) (moves : List Move) → AreSound pages (2 ^ 28) slots → AreMoves slots end moves
      → AreSound pages (2 ^ 28) (after_moves slots moves)
  moves_sound slots [] sound are = sound
  moves_sound slots (m ∷ moves) sound are = moves_sound (after_move slots m) moves (move_sound slots sound m are.0) are.1

  pub moves_alike : (slots : List Slot) (moves : List Move) → AreSound pages (2 ^ 28) slots → AreMoves slots end moves → (j : ℕ)
      → AreAlike (slot_at (after_moves slots moves) j) (slot_at slots j)
  moves_alike slots [] sound are j = record { used = refl; number = refl }
  moves_alike slots (m ∷ moves) sound are j =
      alike_then (slot_at (after_moves (after_move slots m) moves) j) (slot_at (after_move slots m) j) (slot_at slots j)
      (moves_alike (after_move slots m) moves (move_sound slots sound m are.0) are.1 j) (move_alike slots sound m are.0 j)

-- ---- the greatest number

same_greatest : (a b : List Slot) → length a ≡ length b → ((j : ℕ) → AreAlike (slot_at a j) (slot_at b j)) → greatest_number a ≡ greatest_number b
same_greatest [] [] long alike = refl
same_greatest [] (t ∷ b) long alike = absurd (omega arith)
same_greatest (s ∷ a) [] long alike = absurd (omega arith)
same_greatest (s ∷ a) (t ∷ b) long alike =
    let here = alike 0 in
    let rest : greatest_number a ≡ greatest_number b = same_greatest a b (omega arith) (λ j. alike (suc j)) in
    let first : (if is_used s then s.number else 0) ≡ (if is_used t then t.number else 0) =
    ap (λ (u : Bool). if u then s.number else 0) here.used ∙ ap (λ (n : ℕ). if is_used t then n else 0) here.number in
    ap (λ (n : ℕ). max n (greatest_number a)) first ∙ ap (max (if is_used t then t.number else 0)) rest

free_greatest : (n : ℕ) → greatest_number (replicate n free) ≡ 0
free_greatest zero = refl
free_greatest (suc n) = ap (max 0) (free_greatest n)

behind_greatest : (slots : List Slot) (n : ℕ) → greatest_number (slots ++ replicate n free) ≡ greatest_number slots
behind_greatest [] n = free_greatest n
behind_greatest (s ∷ slots) n = ap (max (if is_used s then s.number else 0)) (behind_greatest slots n)

-- ---- the value

module _ (numbers : Pairs) (v : Store) (kept : IsKept numbers v.pages v.slots) (made : 1 ≤ v.pages) (moves : List Move) (can : CanAdd v moves) where
  abbrev slots : List Slot
  slots = after_moves v.slots moves

  abbrev all : List Slot
  all = (grown (Some moves) v).slots

  far : 256 * v.pages ≤ next_end v
  far = omega arith

  pub alike : (j : ℕ) → AreAlike (slot_at slots j) (slot_at v.slots j)
  alike = moves_alike v.pages (next_end v) made far v.slots moves kept.sound can.are

  pub count_moved : length slots ≡ length v.slots
  count_moved = count_after v.slots moves

  pub count_all : length all ≡ length v.slots + 256
  count_all = omega (arith, length-append slots (replicate 256 free), length-replicate 256 free, count_moved)

  -- slot 0 has blocks after the pages
  pub page_fits : 256 * (v.pages + 1) ≤ 2 ^ 28
  page_fits =
      let p = kept.sound.placed 0 (can.all_used 0 (omega (arith, kept.count))) in
      omega (arith, p.behind, p.some, p.below)

  pub can_grow : CanGrow (with_moves v moves)
  can_grow = record { made = made; limit = page_fits; clear = can.behind }

  pub all_sound : AreSound (v.pages + 1) (2 ^ 28) all
  all_sound = grown_sound (with_moves v moves) can_grow (2 ^ 28) (moves_sound v.pages (next_end v) made far v.slots moves kept.sound can.are)

  pub same_next : next_number (grown (Some moves) v) ≡ next_number v
  same_next = ap (λ (n : ℕ). max v.field (n + 1)) (behind_greatest slots 256 ∙ same_greatest slots v.slots count_moved alike)

  pub first_behind : IsFirstFree all (length v.slots)
  first_behind = record {
    below = omega (arith, count_all);
    unused = ap is_used (at_back slots (length v.slots) (omega (arith, count_moved)));
    first = λ k below. ap is_used (at_front slots k (omega (arith, count_moved))) ∙ (alike k).used ∙ can.all_used k below;
  }

  pub ranges_behind : (ranges : List Range) → AreRangesOf ranges slots → AreRangesOf ranges all
  ranges_behind ranges are = record {
    each = λ k used. (let was = still_used slots k used in
        subst (λ (t : Slot). Contains ranges (range_of_slot t)) (sym was.1) (are.each k (ap is_used (sym was.1) ∙ used)));
    only = λ x there.
        let u = are.only x there in
        let e : slot_at all u.at ≡ slot_at slots u.at = at_front slots u.at (used_below slots u.at u.used) in
        record { at = u.at; used = ap is_used e ∙ u.used; is = u.is ∙ ap range_of_slot (sym e) };
  }

  pub all_kept : IsKept numbers (v.pages + 1) all
  all_kept = record {
    places = record {
      each = λ k below used.
          let was = still_used slots k used in
          let a = alike k in
          let u : is_used (slot_at v.slots k) ≡ true = sym a.used ∙ ap is_used (sym was.1) ∙ used in
          ap (find_in numbers) (ap (λ (t : Slot). t.number) was.1 ∙ a.number) ∙ kept.places.each k (used_below v.slots k u) u;
      only = λ n k found.
          let o = kept.places.only n k found in
          let f = number_facts n (slot_at v.slots k) o.1 in
          let a = alike k in
          let e : slot_at all k ≡ slot_at slots k = at_front slots k (omega (arith, o.0, count_moved)) in
          (omega (arith, o.0, count_all), has_it_from n (slot_at all k) (ap is_used e ∙ a.used ∙ f.used) (ap (λ (t : Slot). t.number) e ∙ a.number ∙ f.number));
    };
    numbered = λ k below used.
        let was = still_used slots k used in
        let a = alike k in
        let u : is_used (slot_at v.slots k) ≡ true = sym a.used ∙ ap is_used (sym was.1) ∙ used in
        subst IsPackageNumber (sym (ap (λ (t : Slot). t.number) was.1 ∙ a.number)) (kept.numbered k (used_below v.slots k u) u);
    sound = all_sound;
    limit = page_fits;
    count = omega (arith, count_all, kept.count, made);
  }

-- a plan's page may be added
pub may_grow : (v : Store) (is_new : Bool) (moves : Option (List Move)) → NeedsPage v is_new moves → CanGrowBy v moves
may_grow v is_new None needs = tt
may_grow v is_new (Some moves) needs = needs.1

module _ (numbers : Pairs) (v : Store) (kept : IsKept numbers v.pages v.slots) (made : 1 ≤ v.pages) where
  pub grown_kept : (moves : Option (List Move)) → CanGrowBy v moves → IsKept numbers (grown moves v).pages (grown moves v).slots
  grown_kept None can = kept
  grown_kept (Some moves) can = all_kept numbers v kept made moves can

-- a blob that is replaced asks for no page
pub none_for : (v : Store) (is_new : Bool) (moves : Option (List Move)) → NeedsPage v is_new moves → is_new ≡ false → moves ≡ None
none_for v is_new None needs not_new = refl
none_for v is_new (Some moves) needs not_new = absurd (let e : true ≡ false = sym needs.0 ∙ not_new in cc)

pub grown_made : (v : Store) (moves : Option (List Move)) → 1 ≤ v.pages → 1 ≤ (grown moves v).pages
grown_made v None made = made
grown_made v (Some moves) made = omega arith
