-- The graph of the packages has an edge exactly where one requires what the other gives.
use Rattle.std.proofs.Common.{◌≡◌, ℕ, zero, suc, ◌==◌, ◌⊎◌, List, [], ◌∷◌, ◌++◌, map, Bool, true, false, sym, ap, ◌∙◌, subst, refl, inl, inr, arith}
use Rattle.std.specs.Prelude.{◌&&◌, filter, Contains}
use Rattle.rpm_check.proofs.Vocabulary.{all_edges, Edge, edge, edges_from, flat_map, good_numbers, graph_of, HasEdge, HasEdgesOf, is_edge, is_good, is_in}
use Rattle.rpm_check.proofs.Vocabulary.{nat_cmp, or_cases, or_left, or_right, Package}
use Rattle.std.specs.FinMap as finite
use Rattle.std.proofs.lemmas.Bool.{and_parts, cases_Bool, eqb-true, eq-eqb}
use Rattle.std.proofs.lemmas.List.Elements.{Contains-append_left, Contains-append_right, Contains-append_cases}
use Rattle.rpm_check.proofs.Ending.{edgeless, endless}
use Rattle.rpm_check.proofs.Members.{in_filter}
use Rattle.rpm_check.proofs.Numbering.{numbers}

-- ---- lists

first_or_rest : {X : Type 0} (x : X) (xs : List X) (y : X) → Contains (x ∷ xs) y → (x ≡ y) ⊎ Contains xs y
first_or_rest x xs y (zero, lt, is) = inl is
first_or_rest x xs y (suc i, lt, is) = inr (i, omega (arith, lt), is)

in_flat_map : {X Y : Type 0} (f : X → List Y) (xs : List X) (y : Y) → Contains (flat_map f xs) y → (x : X) × Contains (f x) y
in_flat_map f [] y has = absurd (omega (arith, has.1))
in_flat_map f (x ∷ xs) y has = elim (Contains-append_cases (f x) (flat_map f xs) y has) [
  | inl here ↦ (x, here)
  | inr later ↦ in_flat_map f xs y later
]

-- ---- the edges from one number

in_edges : (n k m : ℕ) (ms : List ℕ) → Contains (map (edge n) ms) (edge k m) → (n ≡ k) × (is_in m ms ≡ true)
in_edges n k m [] has = absurd (omega (arith, has.1))
in_edges n k m (x ∷ ms) has = elim (first_or_rest (edge n x) (map (edge n) ms) (edge k m) has) [
  | inl is ↦ (ap (λ (e : Edge). e.from) is, or_left (x == m) (is_in m ms) (eq-eqb x m (ap (λ (e : Edge). e.to) is)))
  | inr later ↦ (let rest = in_edges n k m ms later in (rest.0, or_right (x == m) (is_in m ms) rest.1))
]

has_edge : (n m : ℕ) (ms : List ℕ) → is_in m ms ≡ true → Contains (map (edge n) ms) (edge n m)
has_edge n m [] is = absurd cc
has_edge n m (x ∷ ms) is = elim (or_cases (x == m) (is_in m ms) is) [
  | inl here ↦ (0, omega arith, ap (edge n) (eqb-true x m here))
  | inr later ↦ (let there = has_edge n m ms later in (suc there.0, omega (arith, there.1), there.2))
]

-- ---- the edges from all of them

from_number : (f : ℕ → List Edge) (P : ℕ × Package → Bool) (n : ℕ) (y : Edge) (es : List (ℕ × Package))
    → is_in n (numbers (filter P es)) ≡ true → Contains (f n) y → Contains (flat_map (λ e. f e.0) es) y
from_number f P n y [] is has = absurd cc
from_number f P n y (e ∷ es) is has =
    let behind : Contains (flat_map (λ e. f e.0) es) y → Contains (f e.0 ++ flat_map (λ e. f e.0) es) y
    = Contains-append_right (f e.0) (flat_map (λ e. f e.0) es) y in
    elim (cases_Bool (P e)) [
      | inl takes ↦ elim (or_cases (e.0 == n) (is_in n (numbers (filter P es))) (rw takes at is)) [
        | inl here ↦
            Contains-append_left (f e.0) (flat_map (λ e. f e.0) es) y (subst (λ (k : ℕ). Contains (f k) y) (sym (eqb-true e.0 n here)) has)
        | inr later ↦ behind (from_number f P n y es later has)
      ]
      | inr other ↦ behind (from_number f P n y es (rw other at is) has)
    ]

not_both : (b : Bool) → b ≡ false → b ≡ true → ⊥
not_both b is other = (let both : false ≡ true = sym is ∙ other in absurd cc)

module _ (all : finite.FinMap nat_cmp Package) (n m : ℕ) where
  edge_is : HasEdge (graph_of all) n m → is_edge all n m ≡ true
  unfolding all_edges
  edge_is has =
      let at = in_flat_map (λ (e : ℕ × Package). edges_from all e.0) (finite.entries all) (edge n m) has in
      let k = at.0.0 in
      let goes = in_edges k n m (filter (is_edge all k) (good_numbers all)) at.1 in
      let both = and_parts (is_edge all k m) (is_in m (good_numbers all)) (sym (in_filter (is_edge all k) m (good_numbers all)) ∙ goes.1) in
      ap (λ (i : ℕ). is_edge all i m) (sym goes.0) ∙ both.0

  begins : is_edge all n m ≡ true → is_in n (good_numbers all) ≡ true
  begins is = elim (cases_Bool (is_in n (good_numbers all))) [
    | inl good ↦ good
    | inr bad ↦ absurd (not_both (is_edge all n m) (edgeless all n m bad) is)
  ]

  ends : is_edge all n m ≡ true → is_in m (good_numbers all) ≡ true
  ends is = elim (cases_Bool (is_in m (good_numbers all))) [
    | inl good ↦ good
    | inr bad ↦ absurd (not_both (is_edge all n m) (endless all n m bad) is)
  ]

  is_edge_then : is_edge all n m ≡ true → HasEdge (graph_of all) n m
  unfolding all_edges good_numbers
  is_edge_then is =
      let good = good_numbers all in
      let both : (is_edge all n m && is_in m good) ≡ true = rw (is, ends is) refl in
      from_number (edges_from all) (λ e. is_good e.1) n (edge n m) (finite.entries all) (begins is)
      (has_edge n m (filter (is_edge all n) good) (in_filter (is_edge all n) m good ∙ both))

pub has_edges : (all : finite.FinMap nat_cmp Package) → HasEdgesOf all (graph_of all)
has_edges all n m = (edge_is all n m, is_edge_then all n m)
