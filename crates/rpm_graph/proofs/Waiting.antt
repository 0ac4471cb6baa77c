-- A place that the search puts on its path: the edges that wait then.
use Rattle.std.proofs.Common.{◌≡◌, ℕ, ◌+◌, ◌-◌, ◌≤◌, ◌<◌, ◌++◌, List, [], length, get_or, set, map, inl, inr, refl, ap, ◌∙◌, arith}
use Rattle.rpm_graph.proofs.Vocabulary.{Contains, IsEdge, IsOnPath, IsSearch, Link, link, link_at}
use Rattle.std.proofs.lemmas.Bool.{cases_lt}
use Rattle.std.proofs.lemmas.List.{get_or_append_left, get_or-append_right, get_or_default, length-append, length-map, get_or-map}
use Rattle.rpm_graph.proofs.Fronts.{IsFront, open_rank}
use Rattle.rpm_graph.proofs.Standing as standing

module _ (rows : List (List ℕ)) (ranks path roots : List ℕ) (pending kept : List Link) (closed : ℕ) (s : IsSearch rows ranks path roots pending closed)
    (v : ℕ) (inside : v < length rows) (new : get_or ranks v 0 ≡ 0) (front : IsFront pending kept v) where
  abbrev ranks_then : List ℕ
  ranks_then = set ranks v (length path + 1)

  at_place : get_or ranks_then v 0 ≡ length path + 1
  at_place = standing.at_place rows ranks path roots pending closed s v inside new

  elsewhere : (x : ℕ) → (x ≡ v → ⊥) → get_or ranks_then x 0 ≡ get_or ranks x 0
  elsewhere = standing.elsewhere rows ranks path roots pending closed s v inside new

  apart : (x : ℕ) → 1 ≤ get_or ranks x 0 → x ≡ v → ⊥
  apart = standing.apart rows ranks path roots pending closed s v inside new

  open_then : (x : ℕ) → IsOnPath (length rows) ranks x → IsOnPath (length rows) ranks_then x
  open_then = standing.open_then rows ranks path roots pending closed s v inside new

  open_here : IsOnPath (length rows) ranks_then v
  open_here = standing.open_here rows ranks path roots pending closed s v inside new

  abbrev pub row : List Link
  row = map (λ to. link v to) (get_or rows v [])

  pub row_has : (w : ℕ) → IsEdge rows v w → Contains row (link v w)
  row_has w (j, lt, is) = (
    j,
    omega (arith, length-map (get_or rows v []) (λ to. link v to)),
    get_or-map (λ to. link v to) (get_or rows v []) j w (link v w) lt ∙ ap (λ to. link v to) is,
  )

  pub row_at : (i : ℕ) → length kept ≤ i → i < length (kept ++ row)
      → (w : ℕ) × IsEdge rows v w × (link_at (kept ++ row) i ≡ link v w)
  row_at i le lt =
      let to = get_or rows v [] in
      let j : (i - length kept) < length to = omega (arith, lt, length-append kept row, length-map to (λ to. link v to)) in
      let w = get_or to (i - length kept) 0 in (
        w,
        (i - length kept, j, get_or_default to (i - length kept) w 0 j),
        get_or-append_right kept row (length kept) i (link 0 0) refl le ∙ get_or-map (λ to. link v to) to (i - length kept) 0 (link 0 0) j,
      )

  pub kept_at : (i : ℕ) → i < length kept → link_at (kept ++ row) i ≡ link_at pending i
  kept_at i lt = get_or_append_left kept row (link 0 0) i lt ∙ front.same i lt

  pub pending_open_then : (i : ℕ) → i < length (kept ++ row)
      → IsOnPath (length rows) ranks_then (link_at (kept ++ row) i).from × IsEdge rows (link_at (kept ++ row) i).from (link_at (kept ++ row) i).to
  pending_open_then i lt = elim (cases_lt i (length kept)) [
    | inl below ↦ let was = s.pending_open i (omega (arith, below, front.shorter)) in
        rw (kept_at i below) (open_then (link_at pending i).from was.0, was.1)
    | inr above ↦ let at = row_at i above lt in rw at.2 (open_here, at.1)
  ]

  pub pending_rises_then : (i j : ℕ) → i ≤ j → j < length (kept ++ row)
      → get_or ranks_then (link_at (kept ++ row) i).from 0 ≤ get_or ranks_then (link_at (kept ++ row) j).from 0
  pending_rises_then i j le lt =
      let old : (m : ℕ) → m < length kept → get_or ranks_then (link_at pending m).from 0 ≡ get_or ranks (link_at pending m).from 0
      = λ m below. elsewhere (link_at pending m).from (apart (link_at pending m).from (s.pending_open m (omega (arith, below, front.shorter))).0.entered) in
      elim (cases_lt j (length kept)) [
        | inl below ↦ let i_below : i < length kept = omega arith in
            rw (kept_at i i_below, kept_at j below) (omega (arith, old i i_below, old j below, s.pending_rises i j le (omega (arith, below, front.shorter))))
        | inr above ↦ elim (cases_lt i (length kept)) [
          | inl i_below ↦ let at = row_at j above lt in
              rw (kept_at i i_below, at.2) (omega (
                arith,
                old i i_below,
                at_place,
                open_rank s (link_at pending i).from (s.pending_open i (omega (arith, i_below, front.shorter))).0,
              ))
          | inr i_above ↦ let at = row_at j above lt in let at_i = row_at i i_above (omega arith) in
              rw (at_i.2, at.2) (omega arith)
        ]
      ]
