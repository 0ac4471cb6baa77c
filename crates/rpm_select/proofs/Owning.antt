-- What is read where a number is asked for: the blocks of that number, once its turn has come.
use Rattle.std.proofs.Common.{◌≡◌, ℕ, ◌+◌, ◌<◌, ◌≤◌, ◌==◌, nat_le, true, false, refl, inl, inr, arith}
use Rattle.std.specs.Prelude.{if◌then◌else◌}
use Rattle.std.proofs.lemmas.Bool.{cases_Bool}
use Rattle.std.proofs.lemmas.Bool.Decides.{nat_tests}
use Rattle.rpm_select.proofs.Vocabulary.{package_cost, Database, is_elsewhere, Number, ReadsOwn, Selection}

-- the blocks of m where the numbers up to k are passed
abbrev pub owing : ℕ → ℕ → (ℕ → ℕ) → ℕ
owing m k costs = if nat_le m k then costs m else 0

abbrev pub ReadsOwnTo : ℕ → Selection → Database → ℕ → ℕ → Type 0
ReadsOwnTo k sel db before now = (m : ℕ) → sel ≡ Number m → now ≤ before + owing m k (λ n. package_cost n db)

no_less : (m k n : ℕ) (costs : ℕ → ℕ) → k < n → owing m k costs ≤ owing m n costs
no_less m k n costs below = elim (cases_Bool (nat_le m k)) [
  | inl passed ↦ (let too : nat_le m n ≡ true = grind (arith, nat_tests) in rw (passed, too) (omega arith))
  | inr ahead ↦ rw ahead (omega arith)
]

own : (n k : ℕ) (costs : ℕ → ℕ) → k < n → (owing n k costs ≡ 0) × (owing n n costs ≡ costs n)
own n k costs below =
    let ahead : nat_le n k ≡ false = grind (arith, nat_tests) in
    let here : nat_le n n ≡ true = grind (arith, nat_tests) in
    (rw ahead refl, rw here refl)

-- the next number is read, or isn't where another is asked for
pub own_then : (sel : Selection) (db : Database) (k n before mid now : ℕ) → k < n → ReadsOwnTo k sel db before mid → now ≤ mid + package_cost n db
    → (is_elsewhere sel n ≡ true → now ≡ mid)
    → ReadsOwnTo n sel db before now
own_then sel db k n before mid now below so_far more unread = λ m is.
    let costs : ℕ → ℕ = λ i. package_cost i db in
    elim (cases_Bool (n == m)) [
      | inl same ↦
          (let here : n ≡ m = grind (arith, nat_tests) in
          let at = own n k costs below in
          let first : mid ≤ before + owing n k costs = rw here (so_far m is) in
          rw (← here) (omega (arith, first, at.0, at.1, more)))
      | inr other ↦
          (let elsewhere : is_elsewhere sel n ≡ true = rw (is, other) refl in
          omega (arith, unread elsewhere, so_far m is, no_less m k n costs below))
    ]

at_most : (m k : ℕ) (costs : ℕ → ℕ) → owing m k costs ≤ costs m
at_most m k costs = elim (cases_Bool (nat_le m k)) [
  | inl passed ↦ rw passed (omega arith)
  | inr ahead ↦ rw ahead (omega arith)
]

pub own_all : (sel : Selection) (db : Database) (k before now : ℕ) → ReadsOwnTo k sel db before now → ReadsOwn sel db before now
own_all sel db k before now so_far = λ m is. omega (arith, so_far m is, at_most m k (λ i. package_cost i db))

-- the next number is the last that is read
pub own_last : (sel : Selection) (db : Database) (k n before mid now : ℕ) → k < n → ReadsOwnTo k sel db before mid → now ≤ mid + package_cost n db
    → (is_elsewhere sel n ≡ true → now ≡ mid)
    → ReadsOwn sel db before now
own_last sel db k n before mid now below so_far more unread = own_all sel db n before now (own_then sel db k n before mid now below so_far more unread)
