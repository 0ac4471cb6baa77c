-- Blocks that moves set free.
use Rattle.std.proofs.Common.{◌≡◌, ◌≢◌, ℕ, ◌+◌, ◌*◌, ◌<◌, ◌≤◌, List, length, take, true, sym, subst, arith}
use Rattle.std.proofs.lemmas.Bool.Decides.{nat_tests}
use Rattle.rpm_pkgdb.proofs.Vocabulary.{AreFreed, AreMovesOf, blank, end_of, is_used, KeepsStore, KeepsBlank, Move, move_at, moved_slot, next_end, Slot, slot_at, Store}
use Rattle.rpm_pkgdb.proofs.Vocabulary.{unit_at, Units, with_moves}
use Rattle.rpm_pkgdb.proofs.Made.{made}
use Rattle.rpm_pkgdb.proofs.FreedLaws.{freed_more}
use Rattle.rpm_pkgdb.proofs.MoveSteps.{current, can_move, then_after}
use Rattle.rpm_pkgdb.proofs.PageLaws.{count_after}

moved_used : (s : Slot) (to pages : ℕ) → 1 ≤ pages → 256 * pages ≤ to → is_used (moved_slot s to) ≡ true
moved_used s to pages some behind = let far : to ≢ 0 = omega arith in grind (arith, nat_tests)

module _ (value : Store) (slots : List Slot) (moves : List Move) (k : ℕ) (some : 1 ≤ value.pages) (same : value.slots ≡ slots) (are : AreMovesOf value moves)
    (below : k < length moves) where
  abbrev m : Move
  m = move_at moves k

  abbrev was : Slot
  was = slot_at slots m.place

  pub freed_then : (zeros_from : ℕ) → zeros_from ≡ next_end value → (F0 F1 F2 : Units) → KeepsStore F0 value
      → AreFreed (next_end value) value.slots F0 (with_moves value (take k moves)).slots F1
      → ((i : ℕ) → was.offset ≤ i → zeros_from ≤ i → i < end_of was → unit_at F2 i ≡ blank)
      → KeepsBlank (m.place + 3) m.to was.count F1 F2 → AreFreed (next_end value) value.slots F0 (with_moves value (take (k + 1) moves)).slots F2
  freed_then zeros_from from_is F0 F1 F2 keeps freed zeros blanks =
      let now = current value slots moves k some same are below in
      let can = can_move value slots moves k some same are below in
      let count = (made F0 value keeps some).count in
      let place = can.slot.below in
      let end : m.place + 3 ≤ next_end value = omega (arith, place, count, count_after value.slots (take k moves)) in
      let used = moved_used was m.to now.pages can.slot.made can.behind in
      subst (λ (v : Store). AreFreed (next_end value) value.slots F0 v.slots F2) (sym (then_after value slots moves k some same are below))
      (freed_more (next_end value) value.slots now.slots m was F0 F1 F2 can.slot.is place used end freed
      (λ i at from inside. zeros i at (omega (arith, from_is, from)) inside) blanks)
