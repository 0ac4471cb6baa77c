-- The search with fewer levels, where an edge of the last one goes back to the path or to a closed class.
use Rattle.std.proofs.Common.{◌≡◌, ℕ, ◌-◌, ◌≤◌, ◌<◌, ◌⊎◌, List, length, get_or, inl, inr, sym, ap, subst, ◌∙◌, arith}
use Rattle.rpm_graph.proofs.Vocabulary.{Contains, Follows, IsEdge, IsFrontOfRoots, IsNoHigher, IsOnPath, IsSearch, Leads, Link, link}
use Rattle.std.proofs.lemmas.Bool.{cases_lt}
use Rattle.std.proofs.lemmas.List.{get_or-take, get_or_default}
use Rattle.rpm_graph.proofs.Fronts.{IsFront, kept_or_lost, waits_open}
use Rattle.rpm_graph.proofs.Walks.{leads_on, leads_edge}

module _ (rows : List (List ℕ)) (ranks path roots : List ℕ) (pending kept : List Link) (closed : ℕ) (s : IsSearch rows ranks path roots pending closed)
    (u w : ℕ) (u_open : IsOnPath (length rows) ranks u) (goes : IsEdge rows u w) (w_in : w < length rows) (some : 1 ≤ get_or ranks w 0)
    (highest : (root : ℕ) → Contains roots root → root < get_or ranks u 0) (front : IsFront pending kept w) (fewer : List ℕ)
    (cut : IsFrontOfRoots roots (get_or ranks w 0) fewer) (last : 0 < length fewer → get_or fewer (length fewer - 1) 0 < get_or ranks w 0) where
  fewer_at : (i d : ℕ) → i < length fewer → get_or fewer i d ≡ get_or roots i d
  fewer_at i d lt = ap (λ l. get_or l i d) cut.front ∙ get_or-take (length fewer) roots i d lt

  in_roots : (root : ℕ) → Contains fewer root → Contains roots root
  in_roots root (i, lt, is) = (i, omega (arith, cut.shorter), sym (fewer_at i root lt) ∙ is)

  roots_rise_then : (i j : ℕ) → i < j → j < length fewer → get_or fewer i 0 < get_or fewer j 0
  roots_rise_then i j less lt =
      let i_in : i < length fewer = omega arith in
      rw (fewer_at i 0 i_in, fewer_at j 0 lt) (s.roots_rise i j less (omega (arith, cut.shorter)))

  below_rank : (root : ℕ) → Contains fewer root → root < get_or ranks w 0
  below_rank root (i, lt, is) =
      let at : get_or fewer i 0 ≡ root = get_or_default fewer i 0 root lt ∙ is in
      let top = last (omega arith) in
      elim (cases_lt i (length fewer - 1)) [
        | inl less ↦ omega (arith, roots_rise_then i (length fewer - 1) less (omega arith), top, at)
        | inr end ↦ let here : i ≡ length fewer - 1 = omega arith in omega (arith, ap (λ j. get_or fewer j 0) here, at, top)
      ]

  in_fewer : (root : ℕ) → Contains roots root → root < get_or ranks w 0 → Contains fewer root
  in_fewer root (i, lt, is) below =
      let at : get_or roots i 0 ≡ root = get_or_default roots i 0 root lt ∙ is in
      elim (cases_lt i (length fewer)) [
        | inl inside ↦ (i, inside, fewer_at i root inside ∙ is)
        | inr behind ↦ absurd (omega (arith, cut.rest i behind lt, at, below))
      ]

  walks_then : (x y : ℕ) → IsOnPath (length rows) ranks x → IsOnPath (length rows) ranks y → IsNoHigher ranks fewer x y → Leads (IsEdge rows) x y
  walks_then x y ox oy flat = elim (cases_lt (get_or ranks x 0) (get_or ranks w 0)) [
    | inl before ↦ s.walks x y ox oy (λ root has below. flat root (in_fewer root has (omega (arith, below, before))) below)
    | inr behind ↦
        let w_open : IsOnPath (length rows) ranks w = record { within = w_in; entered = some; below = omega (arith, behind, ox.below) } in
        leads_on (IsEdge rows) x u y (s.walks x u ox u_open (λ root has below. highest root has))
        (leads_edge (IsEdge rows) u w y goes (s.walks w y w_open oy (λ root has below. flat root (in_fewer root has below) (omega (arith, below, behind)))))
  ]

  looked_then : (x z : ℕ) → x < length rows → 1 ≤ get_or ranks x 0 → IsEdge rows x z
      → Contains kept (link x z) ⊎ Follows (length rows) ranks fewer x z
  looked_then x z lt entered has_edge = elim (s.looked x z lt entered has_edge) [
    | inl waits ↦ elim (kept_or_lost pending kept w front x z waits) [
      | inl still ↦ inl still
      | inr is ↦ inr (subst (λ y. Follows (length rows) ranks fewer x y) (sym is) (record {
        entered = some;
        on_path = λ le root has below. below_rank root has;
        closed = λ over. absurd (omega (arith, over, (waits_open s x z waits).below));
      }))
    ]
    | inr f ↦ inr (record {
      entered = f.entered;
      on_path = λ le root has below. f.on_path le root (in_roots root has) below;
      closed = f.closed;
    })
  ]

  pub joined : IsSearch rows ranks path fewer kept closed
  joined = record {
    sized = s.sized;
    path_room = s.path_room;
    class_room = omega (arith, s.class_room, cut.shorter);
    placed = s.placed;
    ranked = s.ranked;
    bounded = s.bounded;
    filled = s.filled;
    walks = walks_then;
    together = s.together;
    looked = looked_then;
    pending_open = λ i lt. rw (front.same i lt) (s.pending_open i (omega (arith, lt, front.shorter)));
    pending_rises = λ i j le lt. let i_in : i < length kept = omega arith in
        rw (front.same i i_in, front.same j lt) (s.pending_rises i j le (omega (arith, lt, front.shorter)));
    rooted = λ root has. s.rooted root (in_roots root has);
    roots_rise = roots_rise_then;
    first = λ filled. in_fewer 0 (s.first filled) some;
  }
