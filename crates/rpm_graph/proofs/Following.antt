-- The search without its last level: where the edges that were looked at go.
use Rattle.std.proofs.Common.{◌≡◌, ℕ, ◌+◌, ◌-◌, ◌≤◌, ◌<◌, ◌⊎◌, List, length, get_or, take, drop, inl, inr, ap, ◌∙◌, arith}
use Rattle.rpm_graph.proofs.Vocabulary.{AreWithin, Contains, Follows, IsEdge, IsLastRoot, IsMarked, IsOnPath, IsSearch, Link, link, link_at}
use Rattle.std.proofs.lemmas.List.{get_or_default}
use Rattle.rpm_graph.proofs.Level as last_level

module _ (rows : List (List ℕ)) (ranks path roots : List ℕ) (pending : List Link) (closed : ℕ) (s : IsSearch rows ranks path roots pending closed)
    (ends : AreWithin rows) (root : ℕ) (is_last : IsLastRoot roots root) (done : (i : ℕ) → i < length pending → get_or ranks (link_at pending i).from 0 ≤ root)
    (ranks_then : List ℕ) (marked : IsMarked ranks (drop root path) (length ranks + 1 + closed) ranks_then) where
  root_there : Contains roots root
  root_there = last_level.root_there rows ranks path roots pending closed s root is_last ranks_then marked

  fewer_in : (r : ℕ) → Contains (take (length roots - 1) roots) r → Contains roots r × (r < root)
  fewer_in = last_level.fewer_in rows ranks path roots pending closed s root is_last ranks_then marked

  kinds : (v : ℕ) → v < length rows → (IsOnPath (length rows) ranks v × (root < get_or ranks v 0) × (get_or ranks_then v 0 ≡ length rows + 1 + closed))
      ⊎ ((get_or ranks_then v 0 ≡ get_or ranks v 0) × ((get_or ranks v 0 ≤ root) ⊎ (length rows < get_or ranks v 0)))
  kinds = last_level.kinds rows ranks path roots pending closed s root is_last ranks_then marked

  -- an edge of the class ends in it, or in one that was closed before
  level_follows : (x w : ℕ) → w < length rows → IsOnPath (length rows) ranks x → root < get_or ranks x 0
      → get_or ranks_then x 0 ≡ length rows + 1 + closed → Follows (length rows) ranks roots x w
      → Follows (length rows) ranks_then (take (length roots - 1) roots) x w
  level_follows x w w_in o over is f =
      let above = f.on_path o.below root root_there over in
      let high : (length rows < get_or ranks_then w 0) × (get_or ranks_then w 0 ≤ get_or ranks_then x 0) = elim (kinds w w_in) [
        | inl level ↦ (omega (arith, level.2), omega (arith, level.2, is))
        | inr kept ↦ elim kept.1 [
          | inl low ↦ absurd (omega (arith, low, above))
          | inr far ↦ (omega (arith, far, kept.0), omega (arith, kept.0, s.bounded w w_in, is))
        ]
      ] in
      record { entered = omega (arith, high.0); on_path = λ le. absurd (omega (arith, le, is)); closed = λ _. high }

  kept_follows : (x w : ℕ) → w < length rows → get_or ranks_then x 0 ≡ get_or ranks x 0 → Follows (length rows) ranks roots x w
      → Follows (length rows) ranks_then (take (length roots - 1) roots) x w
  kept_follows x w w_in same f = elim (kinds w w_in) [
    | inl level ↦ record {
      entered = omega (arith, level.2);
      on_path = λ le r has below. let was = f.on_path (omega (arith, le, same)) r (fewer_in r has).0 (omega (arith, below, same)) in
          omega (arith, was, level.2, level.0.below);
      closed = λ over. absurd (omega (arith, (f.closed (omega (arith, over, same))).0, level.0.below));
    }
    | inr kept ↦ record {
      entered = omega (arith, f.entered, kept.0);
      on_path = λ le r has below. omega (arith, f.on_path (omega (arith, le, same)) r (fewer_in r has).0 (omega (arith, below, same)), kept.0);
      closed = λ over. let was = f.closed (omega (arith, over, same)) in (omega (arith, was.0, kept.0), omega (arith, was.1, kept.0, same));
    }
  ]

  waits_low : (x w : ℕ) → Contains pending (link x w) → get_or ranks x 0 ≤ root
  waits_low x w (i, lt, is) =
      let at : link_at pending i ≡ link x w = get_or_default pending i (link 0 0) (link x w) lt ∙ is in
      omega (arith, done i lt, ap (λ (l : Link). get_or ranks l.from 0) at)

  pub looked_then : (x w : ℕ) → x < length rows → 1 ≤ get_or ranks_then x 0 → IsEdge rows x w
      → Contains pending (link x w) ⊎ Follows (length rows) ranks_then (take (length roots - 1) roots) x w
  looked_then x w lt some goes = elim (kinds x lt) [
    | inl level ↦ elim (s.looked x w lt level.0.entered goes) [
      | inl waits ↦ absurd (omega (arith, waits_low x w waits, level.1))
      | inr f ↦ inr (level_follows x w (ends x w goes) level.0 level.1 level.2 f)
    ]
    | inr kept ↦ elim (s.looked x w lt (omega (arith, some, kept.0)) goes) [
      | inl waits ↦ inl waits
      | inr f ↦ inr (kept_follows x w (ends x w goes) kept.0 f)
    ]
  ]
