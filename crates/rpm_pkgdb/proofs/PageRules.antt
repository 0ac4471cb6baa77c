-- The slot that the rule of places takes, and the moves of the page that it asks for.
use Rattle.std.proofs.Common.{◌≡◌, inl, inr, ℕ, ◌^◌, List, length, true, false, Bool, not, nat_lt, Option, Some, None, if◌then◌else◌, refl, sym, ap, ◌∙◌, arith}
use Rattle.rpm_pkgdb.proofs.Vocabulary.{all_moves, AreAllUsed, AreSound, first_free, free, has_number, is_used, IsFirstFree, Move, NeedsPage, next_end}
use Rattle.rpm_pkgdb.proofs.Vocabulary.{option_map, page_moves, position_or_len, Slot, slot_at, Store}
use Rattle.std.proofs.lemmas.Bool.{cases_lt}
use Rattle.std.proofs.lemmas.Bool.Decides.{nat_tests}
use Rattle.std.proofs.lemmas.List.Sums.{position_or_len_is, fails_before_first}
use Rattle.rpm_pkgdb.proofs.Facts.{cases_Bool, number_facts}
use Rattle.rpm_pkgdb.proofs.Pairwise.{used_below}
use Rattle.rpm_pkgdb.proofs.MoveRules.{all_made}

-- ---- slots

abbrev is_free : Slot → Bool
is_free s = not (is_used s)

pub first_free_is : (slots : List Slot) (place : ℕ) → IsFirstFree slots place → first_free slots ≡ place
unfolding first_free
first_free_is slots place is =
    let below = is.below in
    position_or_len_is is_free slots place free (omega (arith, below)) (λ k lt. let used = is.first k lt in rw used refl)
    (λ _. let unused = is.unused in rw unused refl)

pub none_free : (slots : List Slot) → AreAllUsed slots → first_free slots ≡ length slots
unfolding first_free
none_free slots all =
    position_or_len_is is_free slots (length slots) free (omega arith) (λ k lt. let used = all k lt in rw used refl) (λ lt. absurd (omega (arith, lt)))

-- a number is that of one slot
pub number_at : (pages : ℕ) (slots : List Slot) → AreSound pages (2 ^ 28) slots → (n place : ℕ) → has_number n (slot_at slots place) ≡ true
    → position_or_len (has_number n) slots ≡ place
number_at pages slots sound n place has =
    let f = number_facts n (slot_at slots place) has in
    let below = used_below slots place f.used in
    position_or_len_is (has_number n) slots place free (omega (arith, below))
    (λ k lt. elim (cases_Bool (has_number n (slot_at slots k))) [
      | inr other ↦ other
      | inl too ↦
          (let g = number_facts n (slot_at slots k) too in
          absurd ((sound.apart k place (λ same. omega (arith, same, lt)) g.used f.used).numbers (g.number ∙ sym f.number)))
    ]) (λ _. has)

-- ---- the page of a new number

abbrev page_or : Store → Bool → Option (Option (List Move))
page_or v there = if there then Some None else option_map Some (all_moves v.slots (next_end v))

no_page : (v : Store) → ¬ AreAllUsed v.slots → nat_lt (first_free v.slots) (length v.slots) ≡ true
unfolding first_free
no_page v some = elim (cases_lt (first_free v.slots) (length v.slots)) [
  | inl below ↦ grind (arith, nat_tests)
  | inr end ↦ absurd (some (λ k lt. elim (cases_Bool (is_used (slot_at v.slots k))) [
    | inl used ↦ used
    | inr unused ↦
        absurd (let fails = fails_before_first is_free v.slots k free (omega (arith, lt, end)) in let e : true ≡ false = rw unused at fails in cc)
  ]))
]

pub a_page : (v : Store) → AreAllUsed v.slots → page_moves v ≡ option_map Some (all_moves v.slots (next_end v))
unfolding page_moves
a_page v all =
    let end = none_free v.slots all in
    let none : nat_lt (first_free v.slots) (length v.slots) ≡ false = rw end (grind (arith, nat_tests)) in
    ap (page_or v) none

pub needs_moves : (v : Store) (moves : Option (List Move)) → NeedsPage v true moves → page_moves v ≡ Some moves
unfolding page_moves
needs_moves v None needs = ap (page_or v) (no_page v (needs refl))
needs_moves v (Some moves) needs =
    a_page v needs.1.all_used ∙ ap (option_map Some) (all_made v.slots (next_end v) moves needs.1.are needs.1.behind)
