-- Rows with one more place, and rows that have one more edge of a graph.
use Rattle.std.proofs.Common.{◌≡◌, ℕ, ◌+◌, ◌<◌, ◌++◌, ◌⊎◌, List, [], ◌∷◌, zero, suc, length, get_or, replicate, inl, inr, refl, sym, ap, subst, ◌∙◌, arith}
use Rattle.rpm_graph.proofs.Vocabulary.{Contains, edge, edge_at, IsEdge, HasEdge, HaveEdges, Network, with_link}
use Rattle.std.proofs.lemmas.Bool.{cases_lt, cases_eq}
use Rattle.std.proofs.lemmas.List.{length-set, get_or-set_same, get_or-set_other, get_or_default}
use Rattle.std.proofs.lemmas.List.Elements.{Contains-append_left, Contains-push, Contains-push_cases}

module _ (rows : List (List ℕ)) (v w : ℕ) (lt : v < length rows) where
  pub row_here : get_or (with_link rows v w) v [] ≡ get_or rows v [] ++ w ∷ []
  row_here = get_or-set_same rows v (get_or rows v [] ++ w ∷ []) [] lt

  pub row_other : (x : ℕ) → (x ≡ v → ⊥) → get_or (with_link rows v w) x [] ≡ get_or rows x []
  row_other x differs = get_or-set_other rows v x (get_or rows v [] ++ w ∷ []) [] differs

  pub goes_new : IsEdge (with_link rows v w) v w
  goes_new = rw row_here (Contains-push (get_or rows v []) w)

  pub goes_kept : (x y : ℕ) → IsEdge rows x y → IsEdge (with_link rows v w) x y
  goes_kept x y goes = elim (cases_eq x v) [
    | inl is ↦ subst (λ z. IsEdge (with_link rows v w) z y) (sym is)
        (rw row_here (Contains-append_left (get_or rows v []) (w ∷ []) y (subst (λ z. IsEdge rows z y) is goes)))
    | inr differs ↦ rw (row_other x differs) goes
  ]

  pub goes_only : (x y : ℕ) → IsEdge (with_link rows v w) x y → IsEdge rows x y ⊎ ((x ≡ v) × (y ≡ w))
  goes_only x y goes = elim (cases_eq x v) [
    | inl is ↦
        let here : Contains (get_or rows v [] ++ w ∷ []) y = subst (λ l. Contains l y) row_here (subst (λ z. IsEdge (with_link rows v w) z y) is goes) in
        elim (Contains-push_cases (get_or rows v []) w y here) [
          | inl old ↦ inl (subst (λ z. IsEdge rows z y) (sym is) old)
          | inr last ↦ inr (is, sym last)
        ]
    | inr differs ↦ inl (subst (λ l. Contains l y) (row_other x differs) goes)
  ]

empty_row : (n v : ℕ) → ◌≡◌ {A = List ℕ} (get_or (replicate n []) v []) []
empty_row zero v = refl
empty_row (suc n) zero = refl
empty_row (suc n) (suc v) = empty_row n v

pub no_goes : (n v w : ℕ) → IsEdge (replicate n []) v w → ⊥
no_goes n v w goes =
    let none : Contains [] w = subst (λ l. Contains l w) (empty_row n v) goes in
    omega (arith, none.1)

module _ (g : Network) (k : ℕ) (rows : List (List ℕ)) (have : HaveEdges g k rows) (in_edges : k < length g.edges) (v w : ℕ)
    (v_in : v < length g.numbers) (v_is : get_or g.numbers v 0 ≡ (edge_at g.edges k).from) (w_in : w < length g.numbers)
    (w_is : get_or g.numbers w 0 ≡ (edge_at g.edges k).to) where
  lt : v < length rows
  lt = omega (arith, v_in, have.sized)

  long : length (with_link rows v w) ≡ length rows
  long = length-set rows v (get_or rows v [] ++ w ∷ [])

  has_edge : HasEdge g (get_or g.numbers v 0) (get_or g.numbers w 0)
  has_edge =
      let here : edge_at g.edges k ≡ edge (get_or g.numbers v 0) (get_or g.numbers w 0) = rw (v_is, w_is) refl in
      (k, in_edges, get_or_default g.edges k (edge (get_or g.numbers v 0) (get_or g.numbers w 0)) (edge 0 0) in_edges ∙ here)

  there_then : (j : ℕ) → j < k + 1 → (x : ℕ) × (y : ℕ) × (x < length g.numbers) × (get_or g.numbers x 0 ≡ (edge_at g.edges j).from)
      × (get_or g.numbers y 0 ≡ (edge_at g.edges j).to) × IsEdge (with_link rows v w) x y
  there_then j less = elim (cases_lt j k) [
    | inl before ↦ let was = have.there j before in (was.0, was.1, was.2, was.3, was.4, goes_kept rows v w lt was.0 was.1 was.5)
    | inr end ↦ let is : k ≡ j = omega arith in
        (v, w, v_in, v_is ∙ ap (λ i. (edge_at g.edges i).from) is, w_is ∙ ap (λ i. (edge_at g.edges i).to) is, goes_new rows v w lt)
  ]

  pub have_more : HaveEdges g (k + 1) (with_link rows v w)
  have_more = record {
    sized = long ∙ have.sized;
    within = λ x y goes. elim (goes_only rows v w lt x y goes) [
      | inl old ↦ omega (arith, have.within x y old, long)
      | inr is ↦ omega (arith, is.1, w_in, long, have.sized)
    ];
    there = there_then;
    back = λ x y goes. elim (goes_only rows v w lt x y goes) [
      | inl old ↦ have.back x y old
      | inr is ↦ rw (is.0, is.1) has_edge
    ];
  }
