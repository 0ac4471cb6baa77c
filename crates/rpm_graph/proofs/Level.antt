-- The last level of the search's path, which becomes a class: the ranks and the roots without it.
use Rattle.std.proofs.Common.{◌≡◌, ℕ, ◌+◌, ◌-◌, ◌≤◌, ◌<◌, ◌⊎◌, List, length, get_or, take, drop, inl, inr, sym, ap, ◌∙◌, arith}
use Rattle.rpm_graph.proofs.Vocabulary.{Contains, IsLastRoot, IsMarked, IsOnPath, IsSearch, Link, unseen_count}
use Rattle.std.proofs.lemmas.Bool.{cases_lt}
use Rattle.std.proofs.lemmas.List.{get_or-take, get_or-drop, length-take-le, length-drop, get_or_default}
use Rattle.rpm_graph.proofs.Unseen.{unseen-same}

module _ (rows : List (List ℕ)) (ranks path roots : List ℕ) (pending : List Link) (closed : ℕ) (s : IsSearch rows ranks path roots pending closed)
    (root : ℕ) (is_last : IsLastRoot roots root)
    (ranks_then : List ℕ) (marked : IsMarked ranks (drop root path) (length ranks + 1 + closed) ranks_then) where
  pub root_there : Contains roots root
  root_there =
      let lt : (length roots - 1) < length roots = omega (arith, is_last.some) in
      (length roots - 1, lt, get_or_default roots (length roots - 1) root 0 lt ∙ is_last.last)

  pub root_in : root < length path
  root_in = s.rooted root root_there

  -- a root is the last, or one of those before it, and below it
  pub before_last : (r : ℕ) → Contains roots r → (r ≡ root) ⊎ ((r < root) × Contains (take (length roots - 1) roots) r)
  before_last r (i, lt, is) =
      let at : get_or roots i 0 ≡ r = get_or_default roots i 0 r lt ∙ is in
      elim (cases_lt i (length roots - 1)) [
        | inl less ↦ inr (
          omega (arith, s.roots_rise i (length roots - 1) less (omega arith), at, is_last.last),
          (i, omega (arith, length-take-le (length roots - 1) roots (omega arith), less), get_or-take (length roots - 1) roots i r less ∙ is),
        )
        | inr end ↦ let here : i ≡ length roots - 1 = omega arith in inl (sym at ∙ ap (λ j. get_or roots j 0) here ∙ is_last.last)
      ]

  pub fewer_long : length (take (length roots - 1) roots) ≡ length roots - 1
  fewer_long = length-take-le (length roots - 1) roots (omega arith)

  pub fewer_in : (r : ℕ) → Contains (take (length roots - 1) roots) r → Contains roots r × (r < root)
  fewer_in r (i, lt, is) =
      let less : i < length roots - 1 = omega (arith, lt, fewer_long) in
      let there : Contains roots r = (i, omega arith, sym (get_or-take (length roots - 1) roots i r less) ∙ is) in
      let at : get_or roots i 0 ≡ r = get_or_default roots i 0 r (omega arith) ∙ there.2 in
      (there, omega (arith, s.roots_rise i (length roots - 1) less (omega arith), at, is_last.last))

  pub highest : (r : ℕ) → Contains roots r → r ≤ root
  highest r has = elim (before_last r has) [ inl is ↦ omega (arith, is) | inr less ↦ omega (arith, less.0) ]

  pub in_level : (v : ℕ) → IsOnPath (length rows) ranks v → root < get_or ranks v 0 → Contains (drop root path) v
  in_level v o over =
      let at = s.ranked v o in
      let le : root ≤ at.0 = omega (arith, at.2, over) in
      let where_is : root + (at.0 - root) ≡ at.0 = omega arith in (
        at.0 - root,
        omega (arith, at.1, length-drop root path),
        get_or-drop root path (at.0 - root) v ∙ ap (λ i. get_or path i v) where_is ∙ get_or_default path at.0 v 0 at.1 ∙ at.3,
      )

  pub level_open : (v : ℕ) → Contains (drop root path) v → (root < get_or ranks v 0) × (get_or ranks v 0 ≤ length rows)
  level_open v (j, lt, is) =
      let inside : root + j < length path = omega (arith, lt, length-drop root path) in
      let at : get_or path (root + j) 0 ≡ v = get_or_default path (root + j) 0 v inside ∙ sym (get_or-drop root path j v) ∙ is in
      let rank = (s.placed (root + j) inside).1 in
      let here = ap (λ x. get_or ranks x 0) at in
      (omega (arith, rank, here), omega (arith, rank, here, inside, s.path_room))

  pub there : (v : ℕ) → IsOnPath (length rows) ranks v → root < get_or ranks v 0 → get_or ranks_then v 0 ≡ length rows + 1 + closed
  there v o over = marked.there v (in_level v o over) ∙ ap (λ n. n + 1 + closed) s.sized

  pub stays : (v : ℕ) → (get_or ranks v 0 ≤ root) ⊎ (length rows < get_or ranks v 0) → get_or ranks_then v 0 ≡ get_or ranks v 0
  stays v kind = elim (marked.others v) [
    | inl has ↦ let o = level_open v has in elim kind [ inl low ↦ absurd (omega (arith, low, o.0)) | inr high ↦ absurd (omega (arith, high, o.1)) ]
    | inr same ↦ same
  ]

  -- a place is of the last level, or stays as it is
  pub kinds : (v : ℕ) → v < length rows → (IsOnPath (length rows) ranks v × (root < get_or ranks v 0) × (get_or ranks_then v 0 ≡ length rows + 1 + closed))
      ⊎ ((get_or ranks_then v 0 ≡ get_or ranks v 0) × ((get_or ranks v 0 ≤ root) ⊎ (length rows < get_or ranks v 0)))
  kinds v lt = elim (cases_lt root (get_or ranks v 0)) [
    | inl over ↦ elim (cases_lt (length rows) (get_or ranks v 0)) [
      | inl high ↦ inr (stays v (inr high), inr high)
      | inr within ↦ let o : IsOnPath (length rows) ranks v = record { within = lt; entered = omega (arith, over); below = within } in
          inl (o, over, there v o over)
    ]
    | inr low ↦ inr (stays v (inl low), inl low)
  ]

  pub open_before : (v : ℕ) → IsOnPath (length rows) ranks_then v
      → IsOnPath (length rows) ranks v × (get_or ranks v 0 ≤ root) × (get_or ranks_then v 0 ≡ get_or ranks v 0)
  open_before v o = elim (kinds v o.within) [
    | inl level ↦ absurd (omega (arith, level.2, o.below))
    | inr kept ↦ elim kept.1 [
      | inl low ↦ (record { within = o.within; entered = omega (arith, o.entered, kept.0); below = omega (arith, o.below, kept.0) }, low, kept.0)
      | inr high ↦ absurd (omega (arith, high, kept.0, o.below))
    ]
  ]

  pub same_count : unseen_count ranks_then ≡ unseen_count ranks
  same_count = unseen-same (λ _. 1) ranks_then ranks marked.length_is
      (λ v lt zero_then. elim (kinds v (omega (arith, lt, marked.length_is, s.sized))) [
        | inl level ↦ absurd (omega (arith, level.2, zero_then))
        | inr kept ↦ sym kept.0 ∙ zero_then
      ])
      (λ v lt zero_now. stays v (inl (omega (arith, zero_now))) ∙ zero_now)

  pub path_long : length (take root path) ≡ root
  path_long = length-take-le root path (omega (arith, root_in))

  pub placed_then : (i : ℕ) → i < length (take root path)
      → (get_or (take root path) i 0 < length rows) × (get_or ranks_then (get_or (take root path) i 0) 0 ≡ i + 1)
  placed_then i lt =
      let less : i < root = omega (arith, lt, path_long) in
      let was = s.placed i (omega (arith, less, root_in)) in
      rw (get_or-take root path i 0 less) (was.0, stays (get_or path i 0) (inl (omega (arith, was.1, less))) ∙ was.1)

  pub ranked_then : (v : ℕ) → IsOnPath (length rows) ranks_then v
      → (i : ℕ) × (i < length (take root path)) × (get_or ranks_then v 0 ≡ i + 1) × (get_or (take root path) i 0 ≡ v)
  ranked_then v o =
      let was = open_before v o in
      let at = s.ranked v was.0 in
      let less : at.0 < root = omega (arith, was.1, at.2) in
      (at.0, omega (arith, less, path_long), was.2 ∙ at.2, get_or-take root path at.0 0 less ∙ at.3)

  pub bounded_then : (v : ℕ) → v < length rows → get_or ranks_then v 0 ≤ length rows + (closed + 1)
  bounded_then v lt = elim (kinds v lt) [
    | inl level ↦ omega (arith, level.2)
    | inr kept ↦ omega (arith, kept.0, s.bounded v lt)
  ]

  pub filled_then : (c : ℕ) → c < closed + 1 → (v : ℕ) × (v < length rows) × (get_or ranks_then v 0 ≡ length rows + 1 + c)
  filled_then c lt = elim (cases_lt c closed) [
    | inl less ↦ let was = s.filled c less in (was.0, was.1, stays was.0 (inr (omega (arith, was.2))) ∙ was.2)
    | inr end ↦
        let was = s.placed root root_in in
        let here : closed ≡ c = omega arith in
        let o : IsOnPath (length rows) ranks (get_or path root 0)
        = record { within = was.0; entered = omega (arith, was.1); below = omega (arith, was.1, root_in, s.path_room) } in
        (get_or path root 0, was.0, there (get_or path root 0) o (omega (arith, was.1)) ∙ ap (λ k. length rows + 1 + k) here)
  ]
