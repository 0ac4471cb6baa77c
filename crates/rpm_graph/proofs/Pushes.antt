-- A graph stays one when a number or an edge is added after the others.
use Rattle.std.proofs.Common.{◌≡◌, ℕ, ◌<◌, ◌++◌, List, [], ◌∷◌, length, inl, inr, arith}
use Rattle.rpm_graph.proofs.Vocabulary.{All, AreRising, Edge, edge, edge_at, IsEdgeBefore, IsNetwork, IsNumberRising, Joins}
use Rattle.std.proofs.lemmas.Bool.{cases_lt}
use Rattle.std.proofs.lemmas.List.{get_or_append_left, get_or_push, length_push}
use Rattle.std.proofs.lemmas.List.Elements.{Contains-append_left}

pub IsRising-push : (xs : List ℕ) (x : ℕ) → IsNumberRising xs → All (λ n. n < x) xs → IsNumberRising (xs ++ x ∷ [])
IsRising-push xs x rises below i j less lt =
    let long = length_push xs x in
    let inside_i : i < length xs = omega arith in
    elim (cases_lt j (length xs)) [
      | inl inside ↦ rw (get_or_append_left xs (x ∷ []) 0 i inside_i, get_or_append_left xs (x ∷ []) 0 j inside) (rises i j less inside)
      | inr end ↦ let at : length xs ≡ j = omega arith in
          rw (get_or_append_left xs (x ∷ []) 0 i inside_i, get_or_push xs x 0 j at) (below i 0 inside_i)
    ]

pub AreRising-push : (es : List Edge) (e : Edge) → AreRising es → All (λ a. IsEdgeBefore a e) es → AreRising (es ++ e ∷ [])
AreRising-push es e rises before i j less lt =
    let long = length_push es e in
    let inside_i : i < length es = omega arith in
    elim (cases_lt j (length es)) [
      | inl inside ↦ rw (get_or_append_left es (e ∷ []) (edge 0 0) i inside_i, get_or_append_left es (e ∷ []) (edge 0 0) j inside) (rises i j less inside)
      | inr end ↦ let at : length es ≡ j = omega arith in
          rw (get_or_append_left es (e ∷ []) (edge 0 0) i inside_i, get_or_push es e (edge 0 0) j at) (before i (edge 0 0) inside_i)
    ]

Joins-more : (xs : List ℕ) (x : ℕ) (e : Edge) → Joins xs e → Joins (xs ++ x ∷ []) e
Joins-more xs x e joins = record {
  begins = Contains-append_left xs (x ∷ []) e.from joins.begins;
  ends = Contains-append_left xs (x ∷ []) e.to joins.ends;
  differ = joins.differ;
}

pub network_with_number : (xs : List ℕ) (es : List Edge) (x : ℕ) → IsNetwork (record { numbers = xs; edges = es }) → All (λ n. n < x) xs
    → IsNetwork (record { numbers = xs ++ x ∷ []; edges = es })
network_with_number xs es x is below = record {
  numbers = IsRising-push xs x is.numbers below;
  edges = is.edges;
  joins = λ i lt. Joins-more xs x (edge_at es i) (is.joins i lt);
}

pub network_with_edge : (xs : List ℕ) (es : List Edge) (e : Edge) → IsNetwork (record { numbers = xs; edges = es }) → Joins xs e
    → All (λ a. IsEdgeBefore a e) es → IsNetwork (record { numbers = xs; edges = es ++ e ∷ [] })
network_with_edge xs es e is joins before = record {
  numbers = is.numbers;
  edges = AreRising-push es e is.edges before;
  joins = λ i lt.
      let long = length_push es e in
      elim (cases_lt i (length es)) [
        | inl inside ↦ rw (get_or_append_left es (e ∷ []) (edge 0 0) i inside) (is.joins i inside)
        | inr end ↦ let at : length es ≡ i = omega arith in rw (get_or_push es e (edge 0 0) i at) joins
      ];
}
