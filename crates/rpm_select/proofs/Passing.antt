-- Packages that are passed over, since they aren't picked.
use Rattle.rpm_select.proofs.Vocabulary.{Database, entry_in, filter, is_picked, IsNext, nat_cmp, next_above, OneOf, Package, packages, Picked, picks_at}
use Rattle.rpm_select.proofs.Vocabulary.{Reach, reaches, store_of, Selection, Serves, Units}
use Rattle.std.proofs.Common.{◌≡◌, ℕ, ◌+◌, ◌-◌, ◌<◌, ◌≤◌, ◌==◌, [], ◌∷◌, true, false, Option, Some, None, Ok, refl, sym, ap, ◌∙◌, subst, inl, inr, arith}
use Rattle.std.specs.FinMap as finite
use Rattle.std.proofs.lemmas.Bool.{cases_Bool}
use Rattle.std.proofs.lemmas.Bool.Decides.{nat_tests}
use Rattle.rpm_select.proofs.Picking.{left, any_to, none_so_far}
use Rattle.rpm_select.proofs.Unpicked.{none_in, skip_in, unpicked}

-- what is known of the numbers up to the next one that is gone over
pub skip : (packages : finite.FinMap nat_cmp Package) (sel : Selection) (k m : ℕ) → k ≤ m
    → ((q : ℕ) (p : Package) → k < q → q ≤ m → finite.get packages q ≡ Some p → is_picked sel (q, p) ≡ false) → left packages sel k ≡ left packages sel m
skip packages sel k m le none =
    skip_in (is_picked sel) k m le (finite.entries packages) (finite.entries_sorted packages)
    (λ q p a b f. none q p a b (finite.get-entries packages q ∙ f))

skip_all : (packages : finite.FinMap nat_cmp Package) (sel : Selection) (k : ℕ)
    → ((q : ℕ) (p : Package) → k < q → finite.get packages q ≡ Some p → is_picked sel (q, p) ≡ false) → left packages sel k ≡ []
skip_all packages sel k none =
    none_in (is_picked sel) k (finite.entries packages) (finite.entries_sorted packages) (λ q p a f. none q p a (finite.get-entries packages q ∙ f))

-- a package that is picked comes first where it isn't below
here : (packages : finite.FinMap nat_cmp Package) (sel : Selection) (n m : ℕ) (p : Package) → n + 1 ≡ m → finite.get packages m ≡ Some p
    → is_picked sel (m, p) ≡ true → left packages sel n ≡ (m, p) ∷ left packages sel m
here packages sel n m p next there takes =
    ap (filter (is_picked sel)) (next_above packages n m p (omega (arith, next)) there (λ q a b. absurd (omega (arith, next, a, b)))) ∙ rw takes refl

-- a package that is picked, and its number
pub record Found (packages : finite.FinMap nat_cmp Package) (sel : Selection) (m : ℕ) (picked : Picked) : Type 0 where
  pub value : Package
  pub there : finite.get packages m ≡ Some value
  pub takes : is_picked sel (m, value) ≡ true
  pub entry : entry_in picked ≡ (m, value)

found_at : (packages : finite.FinMap nat_cmp Package) (sel : Selection) (m : ℕ) (picked : Picked) (o : Option Package) → finite.get packages m ≡ o
    → OneOf sel m o (Ok (Some picked)) → Found packages sel m picked
found_at packages sel m picked None is one = absurd one
found_at packages sel m picked (Some p) is one = record { value = p; there = is; takes = one.0; entry = one.1 }

pub found_one : (packages : finite.FinMap nat_cmp Package) (sel : Selection) (m : ℕ) (picked : Picked)
    → OneOf sel m (finite.get packages m) (Ok (Some picked)) → Found packages sel m picked
found_one packages sel m picked one = found_at packages sel m picked (finite.get packages m) refl one

not_picked : (sel : Selection) (m : ℕ) (o : Option Package) (p : Package) → OneOf sel m o (Ok None) → o ≡ Some p → is_picked sel (m, p) ≡ false
not_picked sel m None p one is = absurd cc
not_picked sel m (Some q) p one is = (let same : q ≡ p = cc in subst (λ (x : Package). is_picked sel (m, x) ≡ false) same one)

module _ (r : Reach) (file : Units) (db : Database) (sel : Selection) (serves : Serves r (packages file (store_of db)) sel) where
  -- the numbers between aren't in reach, and the next one isn't picked
  pub passed_next : (k m : ℕ) → IsNext (reaches r db) k (Some m) → OneOf sel m (finite.get (packages file (store_of db)) m) (Ok None)
      → left (packages file (store_of db)) sel k ≡ left (packages file (store_of db)) sel m
  passed_next k m next one =
      skip (packages file (store_of db)) sel k m (omega (arith, next.0)) (λ q p a b there. elim (cases_Bool (q == m)) [
        | inl same ↦
            (let is : q ≡ m = grind (arith, nat_tests) in
            subst (λ (i : ℕ). is_picked sel (i, p) ≡ false) (sym is)
            (not_picked sel m (finite.get (packages file (store_of db)) m) p one (ap (finite.get (packages file (store_of db))) (sym is) ∙ there)))
        | inr other ↦ unpicked r file db sel serves q p (next.2 q a (grind (arith, nat_tests))) there
      ])

  -- and the next one is
  pub picked_next : (k m : ℕ) (picked : Picked) → IsNext (reaches r db) k (Some m) → Found (packages file (store_of db)) sel m picked
      → left (packages file (store_of db)) sel k ≡ entry_in picked ∷ left (packages file (store_of db)) sel m
  picked_next k m picked next found =
      skip (packages file (store_of db)) sel k (m - 1) (omega (arith, next.0))
      (λ q p a b there. unpicked r file db sel serves q p (next.2 q a (omega (arith, a, b))) there)
      ∙ here (packages file (store_of db)) sel (m - 1) m found.value (omega (arith, next.0)) found.there found.takes
      ∙ ap (λ (e : ℕ × Package). e ∷ left (packages file (store_of db)) sel m) (sym found.entry)

  -- the same where its package is what a selection picks
  pub taken_next : (k m : ℕ) (o : Option Package) → IsNext (reaches r db) k (Some m) → finite.get (packages file (store_of db)) m ≡ o → true ≡ picks_at sel m o
      → (p : Package) × (left (packages file (store_of db)) sel k ≡ (m, p) ∷ left (packages file (store_of db)) sel m)
  taken_next k m None next there takes = absurd cc
  taken_next k m (Some p) next there takes = (
    p,
    skip (packages file (store_of db)) sel k (m - 1) (omega (arith, next.0))
        (λ q v a b at. unpicked r file db sel serves q v (next.2 q a (omega (arith, a, b))) at)
        ∙ here (packages file (store_of db)) sel (m - 1) m p (omega (arith, next.0)) there (sym takes),
  )

  pub none_next : (k : ℕ) → IsNext (reaches r db) k None → left (packages file (store_of db)) sel k ≡ []
  none_next k next = skip_all (packages file (store_of db)) sel k (λ q p a there. unpicked r file db sel serves q p (next q a) there)

  -- the next one lies beyond
  pub none_to : (n k m : ℕ) → IsNext (reaches r db) k (Some m) → k ≤ n → n < m → any_to n (left (packages file (store_of db)) sel k) ≡ false
  none_to n k m next le beyond =
      ap (any_to n) (skip (packages file (store_of db)) sel k n le (λ q p a b there. unpicked r file db sel serves q p (next.2 q a (omega (arith, b, beyond)))
      there))
      ∙ none_so_far (is_picked sel) n n (omega arith) (finite.entries (packages file (store_of db)))
