-- How many bytes the calls read: 16 for each block.
use Rattle.std.proofs.Common.{◌≡◌, ℕ, ◌+◌, ◌*◌, ◌<◌, ◌≤◌, List, [], ◌∷◌, length, Bool, true, false, ◌&&◌, nat_le}
use Rattle.std.proofs.Common.{if◌then◌else◌, Option, Some, None, inl, inr, arith}
use Rattle.std.specs.List.{filter, sum_by}
use Rattle.std.proofs.lemmas.List.Sums.{sum_by-cons}
use Rattle.std.proofs.lemmas.Bool.{cases_Bool}
use Rattle.std.proofs.lemmas.Bool.Decides.{nat_tests}
use Rattle.rpm_outside.specs.Files.{Units, unit_at}
use Rattle.rpm_pkgdb.specs.declared.slot.Slot.{Slot}
use Rattle.rpm_pkgdb.specs.Words.{word}
use Rattle.rpm_pkgdb.specs.Slots.{is_used, has_number, slot_with}
use Rattle.rpm_pkgdb.specs.Damages.{head_reason}
use Rattle.rpm_pkgdb.specs.Store.{Store, is_blank}

-- what opening reads at most of this file: unit 0 alone, or all slot pages where nothing is wrong with it
abbrev pub opening_cost : Units → ℕ
opening_cost file = if is_blank file then 16
    else elim (head_reason (length file) (unit_at file 0)) [ Some reason ↦ 16 | None ↦ 4096 * word 3 (unit_at file 0) ]

-- the bytes of a number's blocks, none where there is no slot
abbrev pub cost : ℕ → Store → ℕ
cost n store = elim (slot_with n store.slots) [ None ↦ 0 | Some s ↦ 16 * s.count ]

-- the bytes of the blocks of all numbers up to this one
unfoldable pub cost_to : ℕ → Store → ℕ
cost_to n store = 16 * sum_by (λ s. s.count) (filter (λ s. is_used s && nat_le s.number n) store.slots)

-- the bytes of the blocks of all numbers
unfoldable pub cost_all : Store → ℕ
cost_all store = 16 * sum_by (λ s. s.count) (filter is_used store.slots)

-- ---- laws

abbrev block_count : List Slot → ℕ
block_count slots = sum_by (λ s. s.count) slots

abbrev cost_of : Option Slot → ℕ
cost_of None = 0
cost_of (Some s) = 16 * s.count

abbrev is_up_to : ℕ → Slot → Bool
is_up_to n s = is_used s && nat_le s.number n

-- one slot more
counted : (p : Slot → Bool) (s : Slot) (ss : List Slot)
    → block_count (filter p (s ∷ ss)) ≡ (if p s then s.count else 0) + block_count (filter p ss)
counted p s ss = elim (cases_Bool (p s)) [
  | inl passes ↦ rw passes (sum_by-cons (λ t. t.count) s (filter p ss))
  | inr fails ↦ rw fails (omega arith)
]

-- a test that passes no more slots
fewer : (p q : Slot → Bool) → ((s : Slot) → p s ≡ true → q s ≡ true) → (slots : List Slot)
    → block_count (filter p slots) ≤ block_count (filter q slots)
fewer p q also [] = omega arith
fewer p q also (s ∷ ss) = rw (counted p s ss, counted q s ss) (elim (cases_Bool (p s)) [
  | inl passes ↦ (let too = also s passes in rw (passes, too) (omega (arith, fewer p q also ss)))
  | inr fails ↦ rw fails (omega (arith, fewer p q also ss))
])

up_to-used : (n : ℕ) (s : Slot) → is_up_to n s ≡ true → is_used s ≡ true
up_to-used n s up = grind (arith, nat_tests)

up_to-more : (n m : ℕ) → n < m → (s : Slot) → is_up_to n s ≡ true → is_up_to m s ≡ true
up_to-more n m below s up = grind (arith, nat_tests)

up_to-itself : (n m : ℕ) → n < m → (s : Slot) → has_number m s ≡ true → (is_up_to m s ≡ true) × (is_up_to n s ≡ false)
up_to-itself n m below s is = (grind (arith, nat_tests), grind (arith, nat_tests))

to-more : (n m : ℕ) → n < m → (slots : List Slot)
    → 16 * block_count (filter (is_up_to n) slots) + cost_of (slot_with m slots) ≤ 16 * block_count
    (filter (is_up_to m) slots)
to-more n m below [] = omega arith
to-more n m below (s ∷ ss) =
    rw (counted (is_up_to n) s ss, counted (is_up_to m) s ss) (elim (cases_Bool (has_number m s)) [
      | inl here ↦ (let t = up_to-itself n m below s here in
          rw (here, t.0, t.1) (omega (arith, fewer (is_up_to n) (is_up_to m) (up_to-more n m below) ss)))
      | inr other ↦ rw other (elim (cases_Bool (is_up_to n s)) [
        | inl passes ↦ (let too = up_to-more n m below s passes in
            rw (passes, too) (omega (arith, to-more n m below ss)))
        | inr fails ↦ rw fails (omega (arith, to-more n m below ss))
      ])
    ])

-- a number costs no more than what it adds to those below it
pub cost_to_more : (store : Store) (n m : ℕ) → n < m → cost_to n store + cost m store ≤ cost_to m store
unfolding cost_to
cost_to_more store n m below = to-more n m below store.slots

pub cost_to-cost_all : (store : Store) (n : ℕ) → cost_to n store ≤ cost_all store
unfolding cost_to cost_all
cost_to-cost_all store n = omega (arith, fewer (is_up_to n) is_used (up_to-used n) store.slots)
