-- The search without its last level, all of whose edges were looked at: it is a class.
use Rattle.std.proofs.Common.{◌≡◌, ℕ, ◌+◌, ◌-◌, ◌≤◌, ◌<◌, ◌⊎◌, List, length, get_or, take, drop, inl, inr, sym, ◌∙◌, arith}
use Rattle.rpm_graph.proofs.Vocabulary.{AreWithin, Contains, IsEdge, IsLastRoot, IsMarked, IsNoHigher, IsOnPath, IsSearch, KeepsSeen, Leads, Link, link_at, unseen}
use Rattle.rpm_graph.proofs.Vocabulary.{unseen_count}
use Rattle.std.proofs.lemmas.List.{get_or-take}
use Rattle.rpm_graph.proofs.Unseen.{unseen-same}
use Rattle.rpm_graph.proofs.Level as last_level
use Rattle.rpm_graph.proofs.Following as following

module _ (rows : List (List ℕ)) (ranks path roots : List ℕ) (pending : List Link) (closed : ℕ) (s : IsSearch rows ranks path roots pending closed)
    (ends : AreWithin rows) (root : ℕ) (is_last : IsLastRoot roots root) (done : (i : ℕ) → i < length pending → get_or ranks (link_at pending i).from 0 ≤ root)
    (ranks_then : List ℕ) (marked : IsMarked ranks (drop root path) (length ranks + 1 + closed) ranks_then) where
  root_in : root < length path
  root_in = last_level.root_in rows ranks path roots pending closed s root is_last ranks_then marked

  before_last : (r : ℕ) → Contains roots r → (r ≡ root) ⊎ ((r < root) × Contains (take (length roots - 1) roots) r)
  before_last = last_level.before_last rows ranks path roots pending closed s root is_last ranks_then marked

  fewer_long : length (take (length roots - 1) roots) ≡ length roots - 1
  fewer_long = last_level.fewer_long rows ranks path roots pending closed s root is_last ranks_then marked

  fewer_in : (r : ℕ) → Contains (take (length roots - 1) roots) r → Contains roots r × (r < root)
  fewer_in = last_level.fewer_in rows ranks path roots pending closed s root is_last ranks_then marked

  highest : (r : ℕ) → Contains roots r → r ≤ root
  highest = last_level.highest rows ranks path roots pending closed s root is_last ranks_then marked

  there : (v : ℕ) → IsOnPath (length rows) ranks v → root < get_or ranks v 0 → get_or ranks_then v 0 ≡ length rows + 1 + closed
  there = last_level.there rows ranks path roots pending closed s root is_last ranks_then marked

  stays : (v : ℕ) → (get_or ranks v 0 ≤ root) ⊎ (length rows < get_or ranks v 0) → get_or ranks_then v 0 ≡ get_or ranks v 0
  stays = last_level.stays rows ranks path roots pending closed s root is_last ranks_then marked

  kinds : (v : ℕ) → v < length rows → (IsOnPath (length rows) ranks v × (root < get_or ranks v 0) × (get_or ranks_then v 0 ≡ length rows + 1 + closed))
      ⊎ ((get_or ranks_then v 0 ≡ get_or ranks v 0) × ((get_or ranks v 0 ≤ root) ⊎ (length rows < get_or ranks v 0)))
  kinds = last_level.kinds rows ranks path roots pending closed s root is_last ranks_then marked

  open_before : (v : ℕ) → IsOnPath (length rows) ranks_then v
      → IsOnPath (length rows) ranks v × (get_or ranks v 0 ≤ root) × (get_or ranks_then v 0 ≡ get_or ranks v 0)
  open_before = last_level.open_before rows ranks path roots pending closed s root is_last ranks_then marked

  same_count : unseen_count ranks_then ≡ unseen_count ranks
  same_count = last_level.same_count rows ranks path roots pending closed s root is_last ranks_then marked

  path_long : length (take root path) ≡ root
  path_long = last_level.path_long rows ranks path roots pending closed s root is_last ranks_then marked

  walks_then : (x y : ℕ) → IsOnPath (length rows) ranks_then x → IsOnPath (length rows) ranks_then y
      → IsNoHigher ranks_then (take (length roots - 1) roots) x y → Leads (IsEdge rows) x y
  walks_then x y ox oy flat =
      let was_x = open_before x ox in
      let was_y = open_before y oy in
      s.walks x y was_x.0 was_y.0 (λ r has below. elim (before_last r has) [
        | inl is ↦ absurd (omega (arith, is, below, was_x.1))
        | inr less ↦ omega (arith, flat r less.1 (omega (arith, below, was_x.2)), was_y.2)
      ])

  together_then : (x y : ℕ) → x < length rows → y < length rows → length rows < get_or ranks_then x 0
      → get_or ranks_then x 0 ≡ get_or ranks_then y 0 → Leads (IsEdge rows) x y
  together_then x y x_in y_in over is = elim (kinds x x_in) [
    | inl x_level ↦ elim (kinds y y_in) [
      | inl y_level ↦ s.walks x y x_level.0 y_level.0 (λ r has below. omega (arith, highest r has, y_level.1))
      | inr y_kept ↦ absurd (omega (arith, x_level.2, is, y_kept.0, s.bounded y y_in))
    ]
    | inr x_kept ↦ elim (kinds y y_in) [
      | inl y_level ↦ absurd (omega (arith, y_level.2, is, x_kept.0, s.bounded x x_in))
      | inr y_kept ↦ s.together x y x_in y_in (omega (arith, over, x_kept.0)) (sym x_kept.0 ∙ is ∙ y_kept.0)
    ]
  ]

  pub closed_then : IsSearch rows ranks_then (take root path) (take (length roots - 1) roots) pending (closed + 1)
  closed_then = record {
    sized = marked.length_is ∙ s.sized;
    path_room = omega (arith, path_long, root_in, same_count, s.path_room);
    class_room = omega (arith, fewer_long, is_last.some, same_count, s.class_room);
    placed = last_level.placed_then rows ranks path roots pending closed s root is_last ranks_then marked;
    ranked = last_level.ranked_then rows ranks path roots pending closed s root is_last ranks_then marked;
    bounded = last_level.bounded_then rows ranks path roots pending closed s root is_last ranks_then marked;
    filled = last_level.filled_then rows ranks path roots pending closed s root is_last ranks_then marked;
    walks = walks_then;
    together = together_then;
    looked = following.looked_then rows ranks path roots pending closed s ends root is_last done ranks_then marked;
    pending_open = λ i lt.
        let was = s.pending_open i lt in
        let same = stays (link_at pending i).from (inl (done i lt)) in
        (record { within = was.0.within; entered = omega (arith, was.0.entered, same); below = omega (arith, was.0.below, same) }, was.1);
    pending_rises = λ i j le lt.
        let i_in : i < length pending = omega arith in
        omega (arith, s.pending_rises i j le lt, stays (link_at pending i).from (inl (done i i_in)), stays (link_at pending j).from (inl (done j lt)));
    rooted = λ r has. omega (arith, (fewer_in r has).1, path_long);
    roots_rise = λ i j less lt.
        let j_in : j < length roots - 1 = omega (arith, lt, fewer_long) in
        let i_in : i < length roots - 1 = omega arith in
        rw (get_or-take (length roots - 1) roots i 0 i_in, get_or-take (length roots - 1) roots j 0 j_in) (s.roots_rise i j less (omega arith));
    first = λ some. elim (before_last 0 (s.first (omega (arith, root_in)))) [
      | inl is ↦ absurd (omega (arith, is, some, path_long))
      | inr less ↦ less.1
    ];
  }

  -- and there is less to do
  pub closed_work : (f : ℕ → ℕ) → length pending + length (take (length roots - 1) roots) + unseen f ranks_then < length pending + length roots + unseen f ranks
  closed_work f =
      let same = unseen-same f ranks_then ranks marked.length_is
      (λ v lt zero_then. elim (kinds v (omega (arith, lt, marked.length_is, s.sized))) [
        | inl level ↦ absurd (omega (arith, level.2, zero_then))
        | inr kept ↦ sym kept.0 ∙ zero_then
      ])
      (λ v lt zero_now. stays v (inl (omega (arith, zero_now))) ∙ zero_now) in
      omega (arith, same, fewer_long, is_last.some)

  pub closed_keeps : KeepsSeen ranks ranks_then
  closed_keeps v some = elim (marked.others v) [
    | inl has ↦ omega (arith, marked.there v has)
    | inr same ↦ omega (arith, some, same)
  ]
