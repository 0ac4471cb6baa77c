-- What a picker's numbers cost, one by one.
use Rattle.std.proofs.Common.{◌≡◌, ℕ, ◌+◌, ◌<◌, ◌≤◌, ◌==◌, List, [], ◌∷◌, true, false, Some, refl, ap, inl, inr, arith}
use Rattle.std.specs.Prelude.{nat_le, filter}
use Rattle.std.specs.List.{sum_by}
use Rattle.std.proofs.lemmas.Bool.{cases_Bool}
use Rattle.std.proofs.lemmas.List.Sums.{sum_by-cons}
use Rattle.std.proofs.lemmas.Bool.Decides.{nat_tests}
use Rattle.rpm_db.specs.Database.{Database, IsNext, package_cost}
use Rattle.rpm_db.proofs.laws.PackageLaws.{cost_more, cost_some, cost_up}
use Rattle.rpm_select.specs.Reach.{Reach, Everything, These, reaches, is_in, reach_to, reach_all}

module _ (costs : ℕ → ℕ) where
  -- of the numbers up to m
  sum_to : ℕ → List ℕ → ℕ
  sum_to m ns = sum_by costs (filter (λ n. nat_le n m) ns)

  sum_none : (m : ℕ) → sum_to m [] ≡ 0
  unfolding sum_to
  sum_none m = refl

  with_one : (m n : ℕ) (ns : List ℕ) → nat_le n m ≡ true → sum_to m (n ∷ ns) ≡ costs n + sum_to m ns
  unfolding sum_to
  with_one m n ns within = rw within (sum_by-cons costs n (filter (λ k. nat_le k m) ns))

  without_one : (m n : ℕ) (ns : List ℕ) → nat_le n m ≡ false → sum_to m (n ∷ ns) ≡ sum_to m ns
  unfolding sum_to
  without_one m n ns beyond = rw beyond refl

  sums_rise : (k m : ℕ) → k ≤ m → (ns : List ℕ) → sum_to k ns ≤ sum_to m ns
  sums_rise k m le [] = omega (arith, sum_none k, sum_none m)
  sums_rise k m le (n ∷ ns) =
      let rest = sums_rise k m le ns in
      elim (cases_Bool (nat_le n k)) [
        | inl below ↦
            (let too : nat_le n m ≡ true = grind (arith, nat_tests) in
            omega (arith, rest, with_one k n ns below, with_one m n ns too))
        | inr above ↦ elim (cases_Bool (nat_le n m)) [
          | inl within ↦ omega (arith, rest, without_one k n ns above, with_one m n ns within)
          | inr beyond ↦ omega (arith, rest, without_one k n ns above, without_one m n ns beyond)
        ]
      ]

  sum_more : (k m : ℕ) → k < m → (ns : List ℕ) → is_in m ns ≡ true → sum_to k ns + costs m ≤ sum_to m ns
  sum_more k m lt [] is = absurd cc
  sum_more k m lt (n ∷ ns) is = elim (cases_Bool (n == m)) [
    | inl same ↦
        (let eq : n ≡ m = grind (arith, nat_tests) in
        let above : nat_le n k ≡ false = grind (arith, nat_tests) in
        let within : nat_le n m ≡ true = grind (arith, nat_tests) in
        let rest = sums_rise k m (omega arith) ns in
        let cost : costs n ≡ costs m = ap costs eq in
        omega (arith, rest, cost, without_one k n ns above, with_one m n ns within))
    | inr other ↦
        (let rest = sum_more k m lt ns (rw other at is) in
        elim (cases_Bool (nat_le n k)) [
          | inl below ↦
              (let too : nat_le n m ≡ true = grind (arith, nat_tests) in
              omega (arith, rest, with_one k n ns below, with_one m n ns too))
          | inr above ↦ elim (cases_Bool (nat_le n m)) [
            | inl within ↦ omega (arith, rest, without_one k n ns above, with_one m n ns within)
            | inr beyond ↦ omega (arith, rest, without_one k n ns above, without_one m n ns beyond)
          ]
        ])
  ]

  sum_some : (m : ℕ) (ns : List ℕ) → sum_to m ns ≤ sum_by costs ns
  sum_some m [] = omega (arith, sum_none m)
  sum_some m (n ∷ ns) =
      let rest = sum_some m ns in
      let all = sum_by-cons costs n ns in
      elim (cases_Bool (nat_le n m)) [
        | inl within ↦ omega (arith, rest, all, with_one m n ns within)
        | inr beyond ↦ omega (arith, rest, all, without_one m n ns beyond)
      ]

-- the next number costs no more than what it adds to those below it
pub reach_more : (r : Reach) (db : Database) (k m : ℕ) → IsNext (reaches r db) k (Some m)
    → reach_to k r db + package_cost m db ≤ reach_to m r db
unfolding sum_to
reach_more Everything db k m next = cost_more db k m next.0
reach_more (These ns) db k m next = sum_more (λ n. package_cost n db) k m next.0 ns next.1

pub reach_some : (r : Reach) (db : Database) (m : ℕ) → reach_to m r db ≤ reach_all r db
unfolding sum_to
reach_some Everything db m = cost_some db m
reach_some (These ns) db m = sum_some (λ n. package_cost n db) m ns

pub reach_up : (r : Reach) (db : Database) (k m : ℕ) → k ≤ m → reach_to k r db ≤ reach_to m r db
unfolding sum_to
reach_up Everything db k m le = cost_up db k m le
reach_up (These ns) db k m le = sums_rise (λ n. package_cost n db) k m le ns
