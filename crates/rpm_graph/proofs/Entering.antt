-- The search with one more place on its path, to which all of the path leads.
use Rattle.std.proofs.Common.{◌≡◌, ℕ, ◌+◌, ◌≤◌, ◌<◌, ◌++◌, ◌⊎◌, List, [], ◌∷◌, length, get_or, set, map, inl, inr, sym, ap, subst, ◌∙◌, arith}
use Rattle.rpm_graph.proofs.Vocabulary.{Contains, Follows, IsEdge, IsNoHigher, IsOnPath, IsSearch, Leads, Link, link, unseen, unseen_count}
use Rattle.std.proofs.lemmas.Bool.{cases_eq}
use Rattle.std.proofs.lemmas.List.{length_push, length-append, length-map, length-set}
use Rattle.std.proofs.lemmas.List.Elements.{Contains-append_left, Contains-append_right, Contains-push, Contains-push_cases}
use Rattle.rpm_graph.proofs.Fronts.{IsFront, kept_or_lost, open_rank, waits_open}
use Rattle.rpm_graph.proofs.Unseen.{unseen-set}
use Rattle.rpm_graph.proofs.Standing as standing
use Rattle.rpm_graph.proofs.Waiting as waiting

module _ (rows : List (List ℕ)) (ranks path roots : List ℕ) (pending kept : List Link) (closed : ℕ) (s : IsSearch rows ranks path roots pending closed)
    (v : ℕ) (inside : v < length rows) (new : get_or ranks v 0 ≡ 0) (front : IsFront pending kept v)
    (led : (x : ℕ) → IsOnPath (length rows) ranks x → Leads (IsEdge rows) x v) where
  abbrev ranks_then : List ℕ
  ranks_then = set ranks v (length path + 1)

  abbrev row : List Link
  row = map (λ to. link v to) (get_or rows v [])

  inside_ranks : v < length ranks
  inside_ranks = standing.inside_ranks rows ranks path roots pending closed s v inside new

  at_place : get_or ranks_then v 0 ≡ length path + 1
  at_place = standing.at_place rows ranks path roots pending closed s v inside new

  elsewhere : (x : ℕ) → (x ≡ v → ⊥) → get_or ranks_then x 0 ≡ get_or ranks x 0
  elsewhere = standing.elsewhere rows ranks path roots pending closed s v inside new

  fewer : unseen_count ranks_then + 1 ≡ unseen_count ranks
  fewer = standing.fewer rows ranks path roots pending closed s v inside new

  apart : (x : ℕ) → 1 ≤ get_or ranks x 0 → x ≡ v → ⊥
  apart = standing.apart rows ranks path roots pending closed s v inside new

  open_before : (x : ℕ) → (x ≡ v → ⊥) → IsOnPath (length rows) ranks_then x → IsOnPath (length rows) ranks x
  open_before = standing.open_before rows ranks path roots pending closed s v inside new

  open_then : (x : ℕ) → IsOnPath (length rows) ranks x → IsOnPath (length rows) ranks_then x
  open_then = standing.open_then rows ranks path roots pending closed s v inside new

  row_has : (w : ℕ) → IsEdge rows v w → Contains row (link v w)
  row_has = waiting.row_has rows ranks path roots pending kept closed s v inside new front

  no_higher_before : (x y : ℕ) → (x ≡ v → ⊥) → (y ≡ v → ⊥) → IsNoHigher ranks_then (roots ++ length path ∷ []) x y → IsNoHigher ranks roots x y
  no_higher_before x y x_differs y_differs flat root has below =
      omega (arith, flat root (Contains-append_left roots (length path ∷ []) root has) (omega (arith, elsewhere x x_differs, below)), elsewhere y y_differs)

  walks_then : (x y : ℕ) → IsOnPath (length rows) ranks_then x → IsOnPath (length rows) ranks_then y
      → IsNoHigher ranks_then (roots ++ length path ∷ []) x y → Leads (IsEdge rows) x y
  walks_then x y ox oy flat = elim (cases_eq y v) [
    | inl y_is ↦ elim (cases_eq x v) [
      | inl x_is ↦ ([], x_is ∙ sym y_is)
      | inr differs ↦ subst (λ z. Leads (IsEdge rows) x z) (sym y_is) (led x (open_before x differs ox))
    ]
    | inr y_differs ↦ elim (cases_eq x v) [
      | inl x_is ↦ let last = flat (length path) (Contains-push roots (length path)) (omega (arith, ap (λ z. get_or ranks_then z 0) x_is, at_place)) in
          absurd (omega (arith, last, elsewhere y y_differs, open_rank s y (open_before y y_differs oy)))
      | inr x_differs ↦ s.walks x y (open_before x x_differs ox) (open_before y y_differs oy) (no_higher_before x y x_differs y_differs flat)
    ]
  ]

  together_then : (x y : ℕ) → x < length rows → y < length rows → length rows < get_or ranks_then x 0
      → get_or ranks_then x 0 ≡ get_or ranks_then y 0 → Leads (IsEdge rows) x y
  together_then x y x_in y_in over is =
      let not_here : (z : ℕ) → length rows < get_or ranks_then z 0 → z ≡ v → ⊥
      = λ z high here. omega (arith, high, ap (λ u. get_or ranks_then u 0) here, at_place, s.path_room, fewer) in
      let x_same = elsewhere x (not_here x over) in
      let y_same = elsewhere y (not_here y (omega (arith, over, is))) in
      s.together x y x_in y_in (omega (arith, over, x_same)) (sym x_same ∙ is ∙ y_same)

  -- from the path, the place stands at the highest level
  top : (x : ℕ) → IsOnPath (length rows) ranks_then x → Follows (length rows) ranks_then (roots ++ length path ∷ []) x v
  top x o = record {
    entered = omega (arith, at_place);
    on_path = λ le root has below. elim (Contains-push_cases roots (length path) root has) [
      | inl old ↦ omega (arith, s.rooted root old, at_place)
      | inr is ↦ omega (arith, is, at_place)
    ];
    closed = λ over. absurd (omega (arith, over, o.below));
  }

  follows_then : (x w : ℕ) → x < length rows → 1 ≤ get_or ranks x 0 → Follows (length rows) ranks roots x w
      → Follows (length rows) ranks_then (roots ++ length path ∷ []) x w
  follows_then x w lt some f =
      let x_same = elsewhere x (apart x some) in
      let w_same = elsewhere w (apart w f.entered) in
      record {
        entered = omega (arith, f.entered, w_same);
        on_path = λ le root has below. elim (Contains-push_cases roots (length path) root has) [
          | inl old ↦ omega (arith, f.on_path (omega (arith, le, x_same)) root old (omega (arith, below, x_same)), w_same)
          | inr is ↦ absurd (omega (
            arith,
            is,
            below,
            x_same,
            open_rank s x (record { within = lt; entered = some; below = omega (arith, le, x_same) }),
          ))
        ];
        closed = λ over. let was = f.closed (omega (arith, over, x_same)) in (omega (arith, was.0, w_same), omega (arith, was.1, w_same, x_same));
      }

  looked_then : (x w : ℕ) → x < length rows → 1 ≤ get_or ranks_then x 0 → IsEdge rows x w
      → Contains (kept ++ row) (link x w) ⊎ Follows (length rows) ranks_then (roots ++ length path ∷ []) x w
  looked_then x w lt some goes = elim (cases_eq x v) [
    | inl is ↦ inl (subst (λ z. Contains (kept ++ row) (link z w)) (sym is)
        (Contains-append_right kept row (link v w) (row_has w (subst (λ z. IsEdge rows z w) is goes))))
    | inr differs ↦ let old : 1 ≤ get_or ranks x 0 = omega (arith, some, elsewhere x differs) in
        elim (s.looked x w lt old goes) [
          | inl waits ↦ elim (kept_or_lost pending kept v front x w waits) [
            | inl still ↦ inl (Contains-append_left kept row (link x w) still)
            | inr is ↦ inr (subst (λ z. Follows (length rows) ranks_then (roots ++ length path ∷ []) x z) (sym is)
                (top x (open_then x (waits_open s x w waits))))
          ]
          | inr f ↦ inr (follows_then x w lt old f)
        ]
  ]

  pub entered : IsSearch rows ranks_then (path ++ v ∷ []) (roots ++ length path ∷ []) (kept ++ row) closed
  entered = record {
    sized = length-set ranks v (length path + 1) ∙ s.sized;
    path_room = omega (arith, s.path_room, fewer, length_push path v);
    class_room = omega (arith, s.class_room, fewer, length_push roots (length path));
    placed = standing.placed_then rows ranks path roots pending closed s v inside new;
    ranked = standing.ranked_then rows ranks path roots pending closed s v inside new;
    bounded = standing.bounded_then rows ranks path roots pending closed s v inside new;
    filled = λ c lt. let was = s.filled c lt in (was.0, was.1, elsewhere was.0 (apart was.0 (omega (arith, was.2))) ∙ was.2);
    walks = walks_then;
    together = together_then;
    looked = looked_then;
    pending_open = waiting.pending_open_then rows ranks path roots pending kept closed s v inside new front;
    pending_rises = waiting.pending_rises_then rows ranks path roots pending kept closed s v inside new front;
    rooted = λ root has. elim (Contains-push_cases roots (length path) root has) [
      | inl old ↦ omega (arith, s.rooted root old, length_push path v)
      | inr is ↦ omega (arith, is, length_push path v)
    ];
    roots_rise = standing.roots_rise_then rows ranks path roots pending closed s v inside new;
    first = λ _. standing.first_then rows ranks path roots pending closed s v inside new;
  }

  -- and there is less to do
  pub entered_work : length kept < length pending
      → length (kept ++ row) + length (roots ++ length path ∷ []) + unseen (λ x. length (get_or rows x []) + 2) ranks_then
      < length pending + length roots + unseen (λ x. length (get_or rows x []) + 2) ranks
  entered_work less =
      let gone = unseen-set (λ x. length (get_or rows x []) + 2) ranks v (length path + 1) inside_ranks new (omega arith) in
      omega (arith, gone, length-append kept row, length-map (get_or rows v []) (λ to. link v to), length_push roots (length path), less)
