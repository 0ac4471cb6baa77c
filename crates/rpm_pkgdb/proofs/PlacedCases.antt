-- The rule of places at work on packages of 80 bytes, which take seven blocks each.
use Rattle.std.proofs.Common.{◌≡◌, ℕ, List, [], ◌∷◌, ◌++◌, replicate, false, Some, None, refl}
use Rattle.rpm_pkgdb.proofs.Vocabulary.{without_number, first_fit, first_free, free, page_moves, placement, placed_in, put_in, Slot, Store}

slot : ℕ → ℕ → Slot
slot number start = record { number = number; offset = start; count = 7 }

-- of one page, whose first slots are these
store : ℕ → List Slot → Store
store next used = record { generation = 1; pages = 1; field = next; slots = used ++ replicate 251 free; spare = 0; is_stopped = false }

three : List Slot
three = slot 1 256 ∷ slot 2 263 ∷ slot 3 270 ∷ []

third : put_in None 80 (store 3 (slot 1 256 ∷ slot 2 263 ∷ free ∷ [])) ≡ Some (store 4 three)
unfolding store slot three placement placed_in page_moves first_free first_fit
third = refl

-- number 2 is erased, and the next one takes its slot and its blocks
again : put_in None 80 (without_number 2 (store 4 three)) ≡ Some (store 5 (slot 1 256 ∷ slot 4 263 ∷ slot 3 270 ∷ []))
unfolding store slot three placement placed_in page_moves first_free first_fit
again = refl
