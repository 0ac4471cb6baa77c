-- A place that the search puts on its path: the ranks and the roots.
use Rattle.std.proofs.Common.{◌≡◌, ℕ, ◌+◌, ◌≤◌, ◌<◌, ◌++◌, List, [], ◌∷◌, length, get_or, set, inl, inr, refl, sym, ap, subst, ◌∙◌, arith}
use Rattle.rpm_graph.proofs.Vocabulary.{Contains, IsOnPath, IsSearch, Link, unseen_count}
use Rattle.std.proofs.lemmas.Bool.{cases_lt, cases_eq}
use Rattle.std.proofs.lemmas.List.{get_or_append_left, get_or_push, get_or_default, length_push, get_or-set_same, get_or-set_other}
use Rattle.std.proofs.lemmas.List.Elements.{Contains-append_left, Contains-push}
use Rattle.rpm_graph.proofs.Unseen.{unseen-set}

module _ (rows : List (List ℕ)) (ranks path roots : List ℕ) (pending : List Link) (closed : ℕ) (s : IsSearch rows ranks path roots pending closed)
    (v : ℕ) (inside : v < length rows) (new : get_or ranks v 0 ≡ 0) where
  abbrev pub ranks_then : List ℕ
  ranks_then = set ranks v (length path + 1)

  pub inside_ranks : v < length ranks
  inside_ranks = omega (arith, s.sized)

  pub at_place : get_or ranks_then v 0 ≡ length path + 1
  at_place = get_or-set_same ranks v (length path + 1) 0 inside_ranks

  pub elsewhere : (x : ℕ) → (x ≡ v → ⊥) → get_or ranks_then x 0 ≡ get_or ranks x 0
  elsewhere x differs = get_or-set_other ranks v x (length path + 1) 0 differs

  pub fewer : unseen_count ranks_then + 1 ≡ unseen_count ranks
  fewer = unseen-set (λ _. 1) ranks v (length path + 1) inside_ranks new (omega arith)

  pub apart : (x : ℕ) → 1 ≤ get_or ranks x 0 → x ≡ v → ⊥
  apart x some is = omega (arith, some, ap (λ y. get_or ranks y 0) is, new)

  pub open_before : (x : ℕ) → (x ≡ v → ⊥) → IsOnPath (length rows) ranks_then x → IsOnPath (length rows) ranks x
  open_before x differs o =
      let same = elsewhere x differs in
      record { within = o.within; entered = omega (arith, o.entered, same); below = omega (arith, o.below, same) }

  pub open_then : (x : ℕ) → IsOnPath (length rows) ranks x → IsOnPath (length rows) ranks_then x
  open_then x o =
      let same = elsewhere x (apart x o.entered) in
      record { within = o.within; entered = omega (arith, o.entered, same); below = omega (arith, o.below, same) }

  pub open_here : IsOnPath (length rows) ranks_then v
  open_here = record { within = inside; entered = omega (arith, at_place); below = omega (arith, at_place, s.path_room, fewer) }

  pub placed_then : (i : ℕ) → i < length (path ++ v ∷ [])
      → (get_or (path ++ v ∷ []) i 0 < length rows) × (get_or ranks_then (get_or (path ++ v ∷ []) i 0) 0 ≡ i + 1)
  placed_then i lt = elim (cases_lt i (length path)) [
    | inl below ↦ let was = s.placed i below in
        rw (get_or_append_left path (v ∷ []) 0 i below)
        (was.0, elsewhere (get_or path i 0) (apart (get_or path i 0) (omega (arith, was.1))) ∙ was.1)
    | inr end ↦ let at : length path ≡ i = omega (arith, length_push path v) in
        rw (get_or_push path v 0 i at) (inside, at_place ∙ ap (λ m. m + 1) at)
  ]

  pub ranked_then : (x : ℕ) → IsOnPath (length rows) ranks_then x
      → (i : ℕ) × (i < length (path ++ v ∷ [])) × (get_or ranks_then x 0 ≡ i + 1) × (get_or (path ++ v ∷ []) i 0 ≡ x)
  ranked_then x o = elim (cases_eq x v) [
    | inl is ↦ (length path, omega (arith, length_push path v), ap (λ y. get_or ranks_then y 0) is ∙ at_place, get_or_push path v 0 (length path) refl ∙ sym is)
    | inr differs ↦ let was = s.ranked x (open_before x differs o) in
        (was.0, omega (arith, length_push path v, was.1), elsewhere x differs ∙ was.2, get_or_append_left path (v ∷ []) 0 was.0 was.1 ∙ was.3)
  ]

  pub bounded_then : (x : ℕ) → x < length rows → get_or ranks_then x 0 ≤ length rows + closed
  bounded_then x lt = elim (cases_eq x v) [
    | inl is ↦ omega (arith, ap (λ y. get_or ranks_then y 0) is, at_place, s.path_room, fewer)
    | inr differs ↦ omega (arith, elsewhere x differs, s.bounded x lt)
  ]

  pub roots_rise_then : (i j : ℕ) → i < j → j < length (roots ++ length path ∷ [])
      → get_or (roots ++ length path ∷ []) i 0 < get_or (roots ++ length path ∷ []) j 0
  roots_rise_then i j less lt =
      let i_in : i < length roots = omega (arith, lt, length_push roots (length path)) in
      elim (cases_lt j (length roots)) [
        | inl below ↦ rw (get_or_append_left roots (length path ∷ []) 0 i i_in, get_or_append_left roots (length path ∷ []) 0 j below)
            (s.roots_rise i j less below)
        | inr end ↦ let at : length roots ≡ j = omega (arith, lt, length_push roots (length path)) in
            rw (get_or_append_left roots (length path ∷ []) 0 i i_in, get_or_push roots (length path) 0 j at)
            (s.rooted (get_or roots i 0) (i, i_in, get_or_default roots i (get_or roots i 0) 0 i_in))
      ]

  pub first_then : Contains (roots ++ length path ∷ []) 0
  first_then = elim (cases_lt 0 (length path)) [
    | inl some ↦ Contains-append_left roots (length path ∷ []) 0 (s.first some)
    | inr none ↦ let is : length path ≡ 0 = omega arith in
        subst (λ z. Contains (roots ++ length path ∷ []) z) is (Contains-push roots (length path))
  ]
