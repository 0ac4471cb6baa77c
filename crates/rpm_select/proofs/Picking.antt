-- The packages that are picked above a number.
use Rattle.std.proofs.Common.{◌≡◌, ℕ, ◌≤◌, ◌==◌, nat_lt, ◌||◌, List, [], ◌∷◌, Bool, false, Some, drop, zero, suc, ◌+◌, refl, inl, inr, arith}
use Rattle.std.specs.Prelude.{slice_get, nat_le}
use Rattle.rpm_select.proofs.Vocabulary.{above, commute, filter, is_picked, list_any, nat_cmp, Package, picks, Selection}
use Rattle.std.specs.FinMap as finite
use Rattle.std.proofs.lemmas.Bool.{cases_Bool}
use Rattle.std.proofs.lemmas.Bool.Decides.{nat_tests}

-- those that are picked among those above a number
abbrev pub left : finite.FinMap nat_cmp Package → Selection → ℕ → List (ℕ × Package)
left packages sel n = filter (is_picked sel) (above n (finite.entries packages))

pub above_picks : (packages : finite.FinMap nat_cmp Package) (sel : Selection) (n : ℕ) → above n (picks packages sel) ≡ left packages sel n
unfolding picks
above_picks packages sel n = commute (λ e. nat_lt n e.0) (is_picked sel) (finite.entries packages)

-- ---- whether one is at most a number

abbrev pub any_to : ℕ → List (ℕ × Package) → Bool
any_to n es = list_any (λ e. nat_le e.0 n) es

pub none_so_far : (P : ℕ × Package → Bool) (n m : ℕ) → n ≤ m → (es : List (ℕ × Package)) → any_to n (filter P (above m es)) ≡ false
none_so_far P n m le [] = refl
none_so_far P n m le (e ∷ es) = elim (cases_Bool (nat_lt m e.0)) [
  | inr below ↦ simp below (none_so_far P n m le es)
  | inl over ↦
      (let past : nat_le e.0 n ≡ false = grind (arith, nat_tests) in
      elim (cases_Bool (P e)) [
        | inl takes ↦ simp (over, takes, past) (none_so_far P n m le es)
        | inr other ↦ simp (over, other) (none_so_far P n m le es)
      ])
]

-- ---- numbers, one by one

pub number_step : (w : ℕ) (xs : List ℕ) (i j n : ℕ) → j ≡ i + 1 → slice_get xs i ≡ Some n
    → list_any (λ m. m == w) (drop i xs) ≡ ((n == w) || list_any (λ m. m == w) (drop j xs))
number_step w [] i j n next at = absurd cc
number_step w (x ∷ xs) zero j n next at =
    let is : x ≡ n = cc in
    rw (next, is) refl
number_step w (x ∷ xs) (suc i) j n next at =
    let step : j ≡ suc (i + 1) = omega arith in
    rw step (number_step w xs i (i + 1) n refl at)
