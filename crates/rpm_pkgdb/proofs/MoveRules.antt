-- The moves of a page as a function are those of the relation.
use Rattle.std.proofs.Common.{◌≡◌, ◌≢◌, inl, inr, ℕ, suc, ◌<◌, ◌≤◌, List, [], ◌∷◌, set, true, false, Bool, nat_lt, ◌&&◌, Option, Some, None, refl, ap, ◌∙◌, arith}
use Rattle.rpm_pkgdb.proofs.Vocabulary.{after_move, after_moves, all_moves, AreBehind, AreMoves, count_before, first_fit, first_used, FitsNowhere, free}
use Rattle.rpm_pkgdb.proofs.Vocabulary.{is_first, is_used, IsFirstBefore, IsNextMove, list_any, Move, moved_slot, moves_from, next_move, one_before}
use Rattle.rpm_pkgdb.proofs.Vocabulary.{option_and_then, option_map, Slot, slot_at}
use Rattle.std.proofs.lemmas.Bool.{cases_eq}
use Rattle.std.proofs.lemmas.Bool.Decides.{nat_tests}
use Rattle.std.proofs.lemmas.List.Folds.{list_any_at}
use Rattle.std.proofs.lemmas.List.Sums.{position_or_len_is, sum_by-cons}
use Rattle.rpm_pkgdb.proofs.Facts.{cases_Bool, no_place}
use Rattle.rpm_pkgdb.proofs.Pairwise.{used_below}
use Rattle.rpm_pkgdb.proofs.PageLaws.{one_less}
use Rattle.rpm_pkgdb.proofs.PlannedLaws.{first_of}
use Rattle.rpm_pkgdb.proofs.FirstFits.{first_fit_some, first_fit_none}

abbrev begins_before : ℕ → Slot → Bool
begins_before block t = is_used t && nat_lt t.offset block

module _ (slots : List Slot) (place : ℕ) (used : is_used (slot_at slots place) ≡ true)
    (first : (j : ℕ) → j ≢ place → is_used (slot_at slots j) ≡ true → (slot_at slots place).offset < (slot_at slots j).offset) where
  none_before : list_any (begins_before (slot_at slots place).offset) slots ≡ false
  none_before = no_place (begins_before (slot_at slots place).offset) slots free (λ p.
      let t = slot_at slots p.at in
      let holds = p.holds in
      let used_t : is_used t ≡ true = grind (arith, nat_tests) in
      let before : t.offset < (slot_at slots place).offset = grind (arith, nat_tests) in
      elim (cases_eq p.at place) [
        | inl same ↦ omega (arith, before, ap (λ (i : ℕ). (slot_at slots i).offset) same)
        | inr other ↦ omega (arith, before, first p.at other used_t)
      ])

  not_first : (k : ℕ) → k < place → is_first slots (slot_at slots k) ≡ false
  not_first k below = elim (cases_Bool (is_used (slot_at slots k))) [
    | inr unused ↦ rw unused refl
    | inl used_k ↦
        (let other : k ≢ place = omega arith in
        let before = first k other used_k in
        let passes : begins_before (slot_at slots k).offset (slot_at slots place) ≡ true = grind (arith, nat_tests) in
        let some : list_any (begins_before (slot_at slots k).offset) slots ≡ true =
        list_any_at (begins_before (slot_at slots k).offset) slots place free (used_below slots place used) passes in
        rw used_k (rw some refl))
  ]

  pub first_used_is : first_used slots ≡ place
  unfolding first_used
  first_used_is =
      let below = used_below slots place used in
      position_or_len_is (is_first slots) slots place free (omega (arith, below)) not_first (λ _. rw used (rw none_before refl))

abbrev move_of : ℕ → ℕ → Move
move_of place to = record { place = place; to = to }

next_is : (slots : List Slot) (end : ℕ) (m : Move) → IsNextMove slots end m → next_move slots end ≡ Some m
unfolding next_move
next_is slots end m next =
    ap (λ (p : ℕ). option_map (move_of p) (first_fit slots (slot_at slots p).count end)) (first_used_is slots m.place next.used next.first)
    ∙ ap (option_map (move_of m.place)) (first_fit_some slots (slot_at slots m.place).count end m.to next.least)

-- ---- how many are left

zero_behind : (slots : List Slot) (end : ℕ) → AreBehind slots end → count_before end slots ≡ 0
unfolding count_before
zero_behind [] end behind = refl
zero_behind (s ∷ slots) end behind =
    let here : one_before end s ≡ 0 = elim (cases_Bool (is_used s)) [
      | inr unused ↦ rw unused refl
      | inl used ↦ (let far : end ≤ s.offset = behind 0 used in grind (arith, nat_tests))
    ] in
    omega (arith, sum_by-cons (one_before end) s slots, here, zero_behind slots end (λ j. behind (suc j)))

abbrev onto : Move → Option (List Move) → Option (List Move)
onto m o = option_map (λ moves. m ∷ moves) o

more : (n : ℕ) (slots : List Slot) (end : ℕ)
    → moves_from (suc n) slots end ≡ option_and_then (λ m. onto m (moves_from n (after_move slots m) end)) (next_move slots end)
unfolding moves_from
more n slots end = refl

step : (slots : List Slot) (end : ℕ) (m : Move) → IsNextMove slots end m → all_moves slots end ≡ onto m (all_moves (after_move slots m) end)
step slots end m next =
    let left = count_before end (after_move slots m) in
    let count : count_before end slots ≡ suc left = omega (arith, one_less slots end m.place m.to (first_of slots end m next) next.least.from_on) in
    ap (λ (n : ℕ). moves_from n slots end) count ∙ more left slots end
    ∙ ap (option_and_then (λ (x : Move). onto x (moves_from left (after_move slots x) end))) (next_is slots end m next)

pub all_made : (slots : List Slot) (end : ℕ) (moves : List Move) → AreMoves slots end moves → AreBehind (after_moves slots moves) end
    → all_moves slots end ≡ Some moves
unfolding moves_from
all_made slots end [] are behind = ap (λ (n : ℕ). moves_from n slots end) (zero_behind slots end behind)
all_made slots end (m ∷ moves) are behind = step slots end m are.0 ∙ ap (onto m) (all_made (after_move slots m) end moves are.1 behind)

pub stuck_here : (slots : List Slot) (end place : ℕ) → IsFirstBefore slots end place
    → ((j : ℕ) → j ≢ place → is_used (slot_at slots j) ≡ true → (slot_at slots place).offset < (slot_at slots j).offset)
    → FitsNowhere slots (slot_at slots place).count end → all_moves slots end ≡ None
unfolding next_move
stuck_here slots end place is first nowhere =
    let left = count_before end (set slots place (moved_slot (slot_at slots place) end)) in
    let count : count_before end slots ≡ suc left = omega (arith, one_less slots end place end is (omega arith)) in
    ap (λ (n : ℕ). moves_from n slots end) count ∙ more left slots end
    ∙ ap (λ (p : ℕ). option_and_then (λ (x : Move). onto x (moves_from left (after_move slots x) end))
    (option_map (move_of p) (first_fit slots (slot_at slots p).count end))) (first_used_is slots place is.used first)
    ∙ ap (λ (o : Option ℕ). option_and_then (λ (x : Move). onto x (moves_from left (after_move slots x) end)) (option_map (move_of place) o))
    (first_fit_none slots (slot_at slots place).count end nowhere)

-- after these moves the next range finds no place
pub some_stuck : (slots : List Slot) (end : ℕ) (moves : List Move) → AreMoves slots end moves → all_moves (after_moves slots moves) end ≡ None
    → all_moves slots end ≡ None
some_stuck slots end [] are none = none
some_stuck slots end (m ∷ moves) are none = step slots end m are.0 ∙ ap (onto m) (some_stuck (after_move slots m) end moves are.1 none)
