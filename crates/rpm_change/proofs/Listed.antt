-- The headers of a list, one after the other.
use Rattle.std.proofs.Common.{◌≡◌, ℕ, zero, suc, ◌+◌, ◌<◌, ◌≤◌, Bool, true, false, List, [], ◌∷◌, length, take, drop, Option, Some, None, Result, Ok, Err, refl, sym, ap, ◌∙◌, inl, inr, arith, nat_lt, length-drop}
use Rattle.std.proofs.lemmas.Bool.{cases_Bool, cases_lt}
use Rattle.std.proofs.lemmas.Bool.Decides.{nat_tests}
use Rattle.std.specs.Prelude.{codes, if◌then◌else◌}
use Rattle.rpm_change.proofs.Vocabulary.{BlobAndRest, Course, from_place, front_header, header, idle, import_from, import_next, imported_header, joined_courses}
use Rattle.rpm_change.proofs.Vocabulary.{ListEnd, list_course, list_head, ListFault, place_fails, Short, size_in, found_of_size, some_found, turn}

-- ---- what follows a header is shorter

shorter_sized : (bytes : List ℕ) (said : Result ℕ ListFault) (found : BlobAndRest) → some_found (found_of_size bytes said) ≡ Ok (Some found)
    → length found.rest + 8 ≤ length bytes
shorter_sized bytes (Err fault) found is = absurd cc
shorter_sized bytes (Ok size) found is = elim (cases_Bool (nat_lt (length bytes) (8 + size))) [
  | inl cut ↦ (let none : Err Short ≡ Ok (Some found) = rw cut at is in absurd cc)
  | inr whole ↦
      (let fits : 8 + size ≤ length bytes = grind (arith, nat_tests) in
      let same : Ok (Some (record { blob = take size (drop 8 bytes); rest = drop (8 + size) bytes })) ≡ Ok (Some found) = rw whole at is in
      let rest : found.rest ≡ drop (8 + size) bytes = cc in
      rw rest (omega (arith, length-drop (8 + size) bytes)))
]

shorter : (bytes : List ℕ) (found : BlobAndRest) → some_found (front_header bytes) ≡ Ok (Some found) → length found.rest + 8 ≤ length bytes
unfolding front_header
shorter bytes found is = elim (cases_Bool (nat_lt (length bytes) 16)) [
  | inl cut ↦ (let none : Err Short ≡ Ok (Some found) = rw cut at is in absurd cc)
  | inr whole ↦ shorter_sized bytes (size_in bytes) found (rw whole at is)
]

-- ---- so many turns are enough

next_same : (most k : ℕ) (f g : List ℕ → Course) (r : Result (Option BlobAndRest) ListFault)
    → ((found : BlobAndRest) → r ≡ Ok (Some found) → f found.rest ≡ g found.rest) → import_next f most k r ≡ import_next g most k r
next_same most k f g (Ok None) same = refl
next_same most k f g (Ok (Some found)) same =
    ap (λ (c : Course). if nat_lt most k then place_fails k (codes "too many headers") else joined_courses (imported_header k (header found.blob)) c)
    (same found refl)
next_same most k f g (Err fault) same = refl

none_in : (most k n : ℕ) → import_from most k n [] ≡ idle
none_in most k zero = refl
none_in most k (suc n) = refl

enough : (most k n m : ℕ) (bytes : List ℕ) → length bytes ≤ n → length bytes ≤ m → import_from most k n bytes ≡ import_from most k m bytes
enough most k n m [] a b = none_in most k n ∙ sym (none_in most k m)
enough most k zero m (x ∷ xs) a b = absurd (omega arith)
enough most k (suc n) zero (x ∷ xs) a b = absurd (omega arith)
enough most k (suc n) (suc m) (x ∷ xs) a b =
    next_same most k (import_from most (k + 1) n) (import_from most (k + 1) m) (list_head (x ∷ xs))
    (λ found is. let less = shorter (x ∷ xs) found is in enough most (k + 1) n m found.rest (omega arith) (omega arith))

-- what stands in front, and then the list after it
listed_step : (most k : ℕ) (bytes : List ℕ) → list_course most k bytes ≡ import_next (list_course most (k + 1)) most k (list_head bytes)
listed_step most k [] = refl
listed_step most k (x ∷ xs) =
    next_same most k (import_from most (k + 1) (length xs)) (list_course most (k + 1)) (list_head (x ∷ xs))
    (λ found is.
    let less = shorter (x ∷ xs) found is in
    enough most (k + 1) (length xs) (length found.rest) found.rest (omega arith) (omega arith))

-- ---- courses

found_split : (most k : ℕ) (found : BlobAndRest) (is_last past : Bool) (left : List ℕ) → nat_lt most k ≡ past → is_last ≡ past → found.rest ≡ left
    → import_next (list_course most (k + 1)) most k (Ok (Some found))
    ≡ joined_courses (turn most k (Ok (Some found))) (from_place is_last most (k + 1) left)
found_split most k found is_last true left test last rest = rw (last, test) refl
found_split most k found is_last false left test last rest = rw (last, test, ← rest) refl

split_next : (most k : ℕ) (r : Result (Option BlobAndRest) ListFault) (is_last : Bool) (left : List ℕ) → ListEnd most k r is_last left
    → import_next (list_course most (k + 1)) most k r ≡ joined_courses (turn most k r) (from_place is_last most (k + 1) left)
split_next most k (Ok None) is_last left leaves = rw leaves refl
split_next most k (Ok (Some found)) is_last left leaves = found_split most k found is_last (nat_lt most k) left refl leaves.0 leaves.1
split_next most k (Err fault) is_last left leaves = rw leaves refl

-- one turn, and what is left after it
pub turn_splits : (most k : ℕ) (bytes : List ℕ) (is_last : Bool) (left : List ℕ) → ListEnd most k (list_head bytes) is_last left
    → from_place false most k bytes ≡ joined_courses (turn most k (list_head bytes)) (from_place is_last most (k + 1) left)
turn_splits most k bytes is_last left leaves = listed_step most k bytes ∙ split_next most k (list_head bytes) is_last left leaves

-- whatever stands in front, something is left after it
pub turn_ahead : (most k : ℕ) (r : Result (Option BlobAndRest) ListFault) → (is_last : Bool) × ((left : List ℕ) × ListEnd most k r is_last left)
turn_ahead most k (Ok None) = (true, ([], refl))
turn_ahead most k (Ok (Some found)) = (nat_lt most k, (found.rest, (refl, refl)))
turn_ahead most k (Err fault) = (true, ([], refl))

-- where the list goes on, one more header may come
pub within_next : (most k : ℕ) (is_last : Bool) → is_last ≡ false → (most < k → is_last ≡ true) → k + 1 ≤ most + 1
within_next most k is_last more last = elim (cases_lt most k) [
  | inl over ↦ (let past : is_last ≡ true = last over in absurd cc)
  | inr within ↦ omega arith
]
