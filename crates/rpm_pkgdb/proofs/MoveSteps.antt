-- One move of several.
use Rattle.std.proofs.Common.{◌≡◌, ℕ, ◌+◌, ◌<◌, ◌≤◌, List, length, take, Some, ap, ◌∙◌, subst, arith, ◌*◌}
use Rattle.rpm_pkgdb.proofs.Vocabulary.{AreMovesOf, CanMove, Move, move_at, moved_slot, moving_cost, no_move, Slot, slot_at, Store, with_moves, with_slot}
use Rattle.std.proofs.lemmas.List.Sums.{sum_by_more, sum_by-take-le}
use Rattle.rpm_pkgdb.proofs.MoveListLaws.{Keep, next_can, next_of, after_more, keep_all, unmoved}

abbrev pub old_slot : List Slot → Move → Slot
old_slot slots m = slot_at slots m.place

-- what is read of the first moves
abbrev pub cost_to : List Slot → List Move → ℕ → ℕ
cost_to slots moves k = moving_cost slots (Some (take k moves))

abbrev count_of : List Slot → Move → ℕ
count_of slots m = (slot_at slots m.place).count

pub cost_more : (slots : List Slot) (moves : List Move) (k : ℕ) → k < length moves
    → cost_to slots moves (k + 1) ≡ cost_to slots moves k + 16 * (slot_at slots (move_at moves k).place).count
cost_more slots moves k below = omega (arith, sum_by_more (count_of slots) moves k no_move below)

pub cost_few : (slots : List Slot) (moves : List Move) (k : ℕ) → cost_to slots moves k ≤ moving_cost slots (Some moves)
cost_few slots moves k = omega (arith, sum_by-take-le (count_of slots) moves k)

module _ (value : Store) (slots : List Slot) (moves : List Move) (k : ℕ) (some : 1 ≤ value.pages) (same : value.slots ≡ slots) (are : AreMovesOf value moves)
    (below : k < length moves) where
  abbrev pub current : Store
  current = with_moves value (take k moves)

  abbrev pub next : Move
  next = move_at moves k

  abbrev pub old : Slot
  old = slot_at slots (move_at moves k).place

  pub kept : Keep value current
  kept = keep_all value moves k are (omega arith)

  old_is : slot_at current.slots next.place ≡ old
  old_is = unmoved value moves k are below ∙ ap (λ (l : List Slot). slot_at l next.place) same

  pub can_move : CanMove current next.place old next.to
  can_move =
      subst (λ (s : Slot). CanMove current next.place s next.to) old_is
      (next_can current next (omega (arith, kept.pages_are)) (next_of value moves k are below))

  pub then_after : with_moves value (take (k + 1) moves) ≡ with_slot next.place (moved_slot old next.to) current
  then_after = after_more value moves k below ∙ ap (λ (s : Slot). with_slot next.place (moved_slot s next.to) current) old_is
