-- Rising numbers, and the packages that are picked by rising number.
use Rattle.rpm_db.specs.Database.{store_of}
use Rattle.std.proofs.Common.{◌≡◌, ℕ, suc, ◌+◌, ◌<◌, ◌≤◌, ◌==◌, List, [], ◌∷◌, length, Bool, true, false, refl, sym, ap}
use Rattle.std.proofs.Common.{◌∙◌, subst}
use Rattle.std.proofs.Common.{inl, inr, arith, nat_lt}
use Rattle.std.specs.Prelude.{filter, slice_index}
use Rattle.std.specs.List.Sorted.{IsStrictlyIncreasing}
use Rattle.std.specs.Ordering.{nat_cmp}
use Rattle.std.specs.FinMap as finite
use Rattle.std.proofs.lemmas.Bool.{cases_Bool, eqb-true, eq-eqb}
use Rattle.rpm_outside.specs.Files.{Units}
use Rattle.rpm_db.specs.State.{Package, packages, above}
use Rattle.rpm_db.specs.Database.{Database, holds}
use Rattle.rpm_db.proofs.laws.Above.{none_is, all_above_zero}
use Rattle.rpm_db.proofs.laws.Kept.{split_above}
use Rattle.rpm_db.proofs.laws.PackageLaws.{is_there}
use Rattle.rpm_select.specs.declared.selection.Selection.{Selection}
use Rattle.rpm_select.specs.Reach.{is_in}
use Rattle.rpm_select.specs.Selections.{is_picked, picks}
use Rattle.rpm_select.proofs.laws.Keyed.{or_left, or_cases}

-- each is above x
abbrev pub AreAbove : ℕ → List ℕ → Type 0
AreAbove x ns = (n : ℕ) → is_in n ns ≡ true → x < n

-- each number is below all that follow it
abbrev pub Rises : List ℕ → Type 0
Rises [] = Unit {0}
Rises (x ∷ xs) = AreAbove x xs × Rises xs

tail_rises : (x : ℕ) (xs : List ℕ) → IsStrictlyIncreasing (x ∷ xs) → IsStrictlyIncreasing xs
tail_rises x xs rising k within =
    let step : suc k + 1 ≡ suc (k + 1) = omega arith in
    subst (λ (i : ℕ). slice_index xs k < slice_index (x ∷ xs) i) step (rising (suc k) (omega (arith, within)))

above_from : (x : ℕ) (xs : List ℕ) → IsStrictlyIncreasing xs → (0 < length xs → x < slice_index xs 0) → AreAbove x xs
above_from x [] rising first n is = absurd cc
above_from x (y ∷ ys) rising first n is =
    let lt : x < y = first (omega arith) in
    elim (or_cases (y == n) (is_in n ys) is) [
      | inl here ↦ (let eq : y ≡ n = eqb-true y n here in omega (arith, lt, eq))
      | inr later ↦
          above_from x ys (tail_rises y ys rising)
          (λ some. (let next : y < slice_index ys 0 = rising 0 (omega (arith, some)) in omega (arith, lt, next))) n
          later
    ]

pub rises : (xs : List ℕ) → IsStrictlyIncreasing xs → Rises xs
rises [] rising = tt
rises (x ∷ xs) rising = (
  above_from x xs (tail_rises x xs rising) (λ some. rising 0 (omega (arith, some))),
  rises xs
      (tail_rises x xs rising),
)

pub not_in : (x : ℕ) (xs : List ℕ) → AreAbove x xs → (n : ℕ) → n ≤ x → is_in n xs ≡ false
not_in x xs above n le = elim (cases_Bool (is_in n xs))
    [ inl is ↦ (let lt = above n is in absurd (omega (arith, lt, le))) | inr none ↦ none ]

pub own : (x : ℕ) (xs : List ℕ) → is_in x (x ∷ xs) ≡ true
own x xs = or_left (x == x) (is_in x xs) (eq-eqb x x refl)

-- the first of one list can't lie below that of another with the same members
not_below : (x y : ℕ) (xs ys : List ℕ) → AreAbove y ys → ((n : ℕ) → is_in n (x ∷ xs) ≡ is_in n (y ∷ ys)) → x < y → ⊥
not_below x y xs ys above same lt =
    let here : is_in x (y ∷ ys) ≡ true = sym (same x) ∙ own x xs in
    elim (or_cases (y == x) (is_in x ys) here) [
      | inl eq ↦ (let is : y ≡ x = eqb-true y x eq in omega (arith, is, lt))
      | inr later ↦ (let over = above x later in omega (arith, over, lt))
    ]

pub same_members : (xs ys : List ℕ) → Rises xs → Rises ys → ((n : ℕ) → is_in n xs ≡ is_in n ys) → xs ≡ ys
same_members [] [] left right same = refl
same_members [] (y ∷ ys) left right same = (let both : false ≡ true = same y ∙ own y ys in absurd cc)
same_members (x ∷ xs) [] left right same = (let both : true ≡ false = sym (own x xs) ∙ same x in absurd cc)
same_members (x ∷ xs) (y ∷ ys) left right same =
    let first : x ≡ y = grind (
      arith,
      not_below x y xs ys right.0 same,
      not_below y x ys xs left.0
          (λ n. sym (same n)),
    ) in
    let rest : xs ≡ ys =
    same_members xs ys left.1 right.1 (λ n. elim (cases_Bool (x == n)) [
      | inl here ↦
          (let eq : x ≡ n = eqb-true x n here in
          not_in x xs left.0 n (omega (arith, eq)) ∙ sym (not_in y ys right.0 n (omega (arith, eq, first))))
      | inr other ↦
          (let other_too : (y == n) ≡ false = ap (λ (i : ℕ). i == n) (sym first) ∙ other in
          rw (other, other_too) at (same n))
    ]) in
    ap (λ (zs : List ℕ). x ∷ zs) rest ∙ ap (λ (z : ℕ). z ∷ ys) first

-- ---- those that are picked

-- what follows the first that is picked above a number are those above its own
pub next_picked : (map : finite.FinMap nat_cmp Package) (sel : Selection) (n : ℕ) (e : ℕ × Package)
    (rest : List (ℕ × Package))
    → above n (picks map sel) ≡ e ∷ rest → above n (picks map sel) ≡ e ∷ above e.0 (picks map sel)
unfolding picks
next_picked map sel n e rest is =
    let s = split_above (is_picked sel) n (finite.entries map) (finite.entries_sorted map) e rest is in
    is ∙ ap (λ (r : List (ℕ × Package)). e ∷ r) s.1

pub commute : {X : Type 0} (p q : X → Bool) (xs : List X) → filter p (filter q xs) ≡ filter q (filter p xs)
commute p q [] = refl
commute p q (x ∷ xs) = elim (cases_Bool (p x)) [
  | inl first ↦ elim (cases_Bool (q x)) [
    | inl second ↦ simp (first, second) (ap (λ ys. x ∷ ys) (commute p q xs))
    | inr second ↦ simp (first, second) (commute p q xs)
  ]
  | inr first ↦ elim (cases_Bool (q x)) [
    | inl second ↦ simp (first, second) (commute p q xs)
    | inr second ↦ simp (first, second) (commute p q xs)
  ]
]

-- no package has the number 0
pub picks_from_one : (file : Units) (db : Database) (sel : Selection) → holds 0 db ≡ false
    → above 0 (picks (packages file (store_of db)) sel)
    ≡ picks (packages file (store_of db)) sel
unfolding picks
picks_from_one file db sel none =
    let map = packages file (store_of db) in
    commute (λ e. nat_lt 0 e.0) (is_picked sel) (finite.entries map)
    ∙ ap (filter (is_picked sel)) (all_above_zero map (none_is (finite.get map 0) (is_there file db 0 ∙ none)))
