-- The packages that can be read, one after the other, and the edges from each.
use Rattle.std.proofs.Common.{◌≡◌, ℕ, ◌+◌, ◌<◌, ◌≤◌, List, [], ◌∷◌, ◌++◌, length, get_or, drop, add-one, drop-cons, true, false, refl, sym, ap, ◌∙◌, subst, inl, inr, arith, append_assoc, append-nil}
use Rattle.rpm_check.proofs.Vocabulary.{All, among, AreNodesRising, BeginsBelow, BeginsUpTo, Edge, edges_from, edges_of, flat_map, good_numbers, is_good_at, is_in}
use Rattle.rpm_check.proofs.Vocabulary.{IsNumberRising, IsStrictlyIncreasing, nat_cmp, Node, node_numbers, Package}
use Rattle.std.specs.FinMap as finite
use Rattle.std.proofs.lemmas.Bool.{cases_lt}
use Rattle.std.proofs.lemmas.Grind.{flat_map-append}
use Rattle.std.proofs.lemmas.List.{get_or_append_left, get_or_push, get_or-map, length_push, length-map, map-append}
use Rattle.std.proofs.lemmas.List.Elements.{All-get_or, All-nil, All-push, All-same, All-weaker}
use Rattle.rpm_check.proofs.Ending.{good_in, no_edges}

-- ---- one more after them

rising_push : (xs : List ℕ) (x : ℕ) → IsNumberRising xs → All (λ (n : ℕ). n < x) xs → IsNumberRising (xs ++ x ∷ [])
rising_push xs x rises below i j less lt =
    let long = length_push xs x in
    let inside_i : i < length xs = omega arith in
    elim (cases_lt j (length xs)) [
      | inl inside ↦ rw (get_or_append_left xs (x ∷ []) 0 i inside_i, get_or_append_left xs (x ∷ []) 0 j inside) (rises i j less inside)
      | inr end ↦ let at : length xs ≡ j = omega arith in
          rw (get_or_append_left xs (x ∷ []) 0 i inside_i, get_or_push xs x 0 j at) (below i 0 inside_i)
    ]

pub none_rise : AreNodesRising []
none_rise = record { numbers = λ i j less lt. absurd (omega (arith, lt)); ends = All-nil (λ (v : Node). IsStrictlyIncreasing v.ends.items) }

module _ (nodes : List Node) (v : Node) where
  pub numbers_push : node_numbers (nodes ++ v ∷ []) ≡ node_numbers nodes ++ v.number ∷ []
  numbers_push = map-append (λ (w : Node). w.number) nodes (v ∷ [])

  pub edges_push : (numbers : List ℕ) → flat_map (edges_of numbers) (nodes ++ v ∷ []) ≡ flat_map (edges_of numbers) nodes ++ edges_of numbers v
  edges_push numbers =
      flat_map-append (edges_of numbers) nodes (v ∷ [])
      ∙ ap (λ (es : List Edge). flat_map (edges_of numbers) nodes ++ es) (append-nil (edges_of numbers v))

  module _ (below : All (λ (n : ℕ). n < v.number) (node_numbers nodes)) where
    pub nodes_rise : AreNodesRising nodes → IsStrictlyIncreasing v.ends.items → AreNodesRising (nodes ++ v ∷ [])
    nodes_rise rising ends = record {
      numbers = subst IsNumberRising (sym numbers_push) (rising_push (node_numbers nodes) v.number rising.numbers below);
      ends = All-push (λ (w : Node). IsStrictlyIncreasing w.ends.items) nodes v rising.ends ends;
    }

    pub nodes_reach : All (λ (n : ℕ). n ≤ v.number) (node_numbers (nodes ++ v ∷ []))
    nodes_reach =
        All-same (λ (n : ℕ). n ≤ v.number) _ _ numbers_push
        (All-push (λ (n : ℕ). n ≤ v.number) (node_numbers nodes) v.number
        (All-weaker (λ (n : ℕ). n < v.number) (λ (n : ℕ). n ≤ v.number) (λ n lt. omega (arith, lt)) (node_numbers nodes) below) (omega arith))

-- a package that can't be read has no edges
pub none_from : (all : finite.FinMap nat_cmp Package) (n : ℕ) → false ≡ is_good_at (finite.get all n) → edges_from all n ≡ []
none_from all n bad = no_edges all n (good_numbers all) refl (good_in all n ∙ sym bad)

-- ---- from one place to the next

next_drop : {X : Type 0} (xs : List X) (k : ℕ) (d : X) → k < length xs → drop k xs ≡ get_or xs k d ∷ drop (k + 1) xs
next_drop xs k d within = rw (add-one, drop-cons xs k d) refl

-- a number is below those from a place on
abbrev pub IsBelowFrom : List Node → ℕ → ℕ → Type 0
IsBelowFrom nodes k n = (j : ℕ) → k ≤ j → j < length nodes → n < get_or (node_numbers nodes) j 0

module _ (nodes : List Node) (rising : AreNodesRising nodes) (k : ℕ) (v : Node) (lt : k < length nodes) (is : v ≡ get_or nodes k v) where
  number_at : get_or (node_numbers nodes) k 0 ≡ v.number
  number_at = get_or-map (λ (w : Node). w.number) nodes k v 0 lt ∙ ap (λ (w : Node). w.number) (sym is)

  rest_from : drop k nodes ≡ v ∷ drop (k + 1) nodes
  rest_from = next_drop nodes k v lt ∙ ap (λ (w : Node). w ∷ drop (k + 1) nodes) (sym is)

  below_next : (n : ℕ) → n ≤ v.number → IsBelowFrom nodes (k + 1) n
  below_next n le j from within =
      let step = rising.numbers k j (omega (arith, from)) (omega (arith, within, length-map nodes (λ (w : Node). w.number))) in
      omega (arith, step, le, number_at)

  below_here : (n : ℕ) → IsBelowFrom nodes k n → n < v.number
  below_here n below = omega (arith, below k (omega arith) lt, number_at)

  pub number_in : is_in v.number (node_numbers nodes) ≡ true
  number_in =
      subst (λ (n : ℕ). is_in n (node_numbers nodes) ≡ true) number_at
      (among (node_numbers nodes) k (omega (arith, lt, length-map nodes (λ (w : Node). w.number))))

  pub ends_rise : IsStrictlyIncreasing v.ends.items
  ends_rise =
      subst (λ (w : Node). IsStrictlyIncreasing w.ends.items) (sym is)
      (All-get_or (λ (w : Node). IsStrictlyIncreasing w.ends.items) nodes k v lt rising.ends)

  pub numbers_behind : (ns : List ℕ) → All (IsBelowFrom nodes k) ns → All (λ (n : ℕ). n < v.number) ns
  numbers_behind ns below = All-weaker (IsBelowFrom nodes k) (λ (n : ℕ). n < v.number) below_here ns below

  pub numbers_below : (ns : List ℕ) → All (IsBelowFrom nodes k) ns → All (IsBelowFrom nodes (k + 1)) (ns ++ v.number ∷ [])
  numbers_below ns below =
      All-push (IsBelowFrom nodes (k + 1)) ns v.number
      (All-weaker (λ (n : ℕ). n < v.number) (IsBelowFrom nodes (k + 1)) (λ n less. below_next n (omega (arith, less))) ns (numbers_behind ns below))
      (below_next v.number (omega arith))

  pub edges_behind : (es : List Edge) → All (λ (e : Edge). IsBelowFrom nodes k e.from) es → All (BeginsBelow v.number) es
  edges_behind es below = All-weaker (λ (e : Edge). IsBelowFrom nodes k e.from) (BeginsBelow v.number) (λ e b. below_here e.from b) es below

  pub edges_below : (es : List Edge) → All (BeginsUpTo v.number) es → All (λ (e : Edge). IsBelowFrom nodes (k + 1) e.from) es
  edges_below es low = All-weaker (BeginsUpTo v.number) (λ (e : Edge). IsBelowFrom nodes (k + 1) e.from) (λ e le. below_next e.from le) es low

  pub numbers_told : (ns whole : List ℕ) → ns ++ node_numbers (drop k nodes) ≡ whole
      → (ns ++ v.number ∷ []) ++ node_numbers (drop (k + 1) nodes) ≡ whole
  numbers_told ns whole so_far =
      append_assoc ns (v.number ∷ []) (node_numbers (drop (k + 1) nodes)) ∙ ap (λ (vs : List Node). ns ++ node_numbers vs) (sym rest_from) ∙ so_far

  pub edges_told : (numbers : List ℕ) (es whole : List Edge) → es ++ flat_map (edges_of numbers) (drop k nodes) ≡ whole
      → (es ++ edges_of numbers v) ++ flat_map (edges_of numbers) (drop (k + 1) nodes) ≡ whole
  edges_told numbers es whole so_far =
      append_assoc es (edges_of numbers v) (flat_map (edges_of numbers) (drop (k + 1) nodes))
      ∙ ap (λ (vs : List Node). es ++ flat_map (edges_of numbers) vs) (sym rest_from) ∙ so_far
