-- What is known of the edge that was taken, by the ranks as the call was lent them.
use Rattle.std.proofs.Common.{◌≡◌, ℕ, ◌+◌, ◌-◌, ◌++◌, ◌∷◌, [], ◌<◌, ◌≤◌, List, length, get_or, set, map, ap, subst, arith}
use Rattle.std.proofs.lemmas.List.{length_push}
use Rattle.rpm_graph.proofs.Vocabulary.{IsEdge, IsFrontOfRoots, IsLastRoot, IsSearch, Link, link, Search, Searches, work, work_left}
use Rattle.rpm_graph.proofs.Entering.{entered, entered_work}
use Rattle.rpm_graph.proofs.Joining.{joined}
use Rattle.rpm_graph.proofs.Steps.{from_open, goes, path_leads, roots_below}
use Rattle.rpm_graph.proofs.Fronts.{front-push}

module _ (rows : List (List ℕ)) (s : Search) (searched : Searches rows s) (root : ℕ) (is_last : IsLastRoot s.roots.items root) (lent : List ℕ)
    (same : lent ≡ s.ranks.items) (kept : List Link) (l : Link) (taken : (s.pending.items ≡ kept ++ l ∷ []) × (root < get_or lent l.from 0)) where
  over : root < get_or s.ranks.items l.from 0
  over = subst (λ r. root < get_or r l.from 0) same taken.1

  pub there : IsEdge rows l.from l.to
  there = goes rows s.ranks.items s.path.items s.roots.items s.pending.items s.closed searched root is_last kept l.from l.to taken.0 over

  fewer : length kept < length s.pending.items
  fewer = omega (arith, ap length taken.0, length_push kept l)

  -- the search with the place that it ends at
  pub search_entered : l.to < length rows → get_or s.ranks.items l.to 0 ≡ 0 → IsSearch rows (set s.ranks.items l.to (length s.path.items + 1))
      (s.path.items ++ l.to ∷ []) (s.roots.items ++ length s.path.items ∷ []) (kept ++ map (λ to. link l.to to) (get_or rows l.to [])) s.closed
  search_entered lt new = entered rows s.ranks.items s.path.items s.roots.items s.pending.items kept s.closed searched l.to lt new
      (front-push s.pending.items kept l taken.0)
      (path_leads rows s.ranks.items s.path.items s.roots.items s.pending.items s.closed searched root is_last kept l.from l.to taken.0 over)

  pub work_entered : l.to < length rows → get_or s.ranks.items l.to 0 ≡ 0
      → work_left rows (set s.ranks.items l.to (length s.path.items + 1)) (s.roots.items ++ length s.path.items ∷ [])
      (kept ++ map (λ to. link l.to to) (get_or rows l.to [])) < work rows s
  work_entered lt new = entered_work rows s.ranks.items s.path.items s.roots.items s.pending.items kept s.closed searched l.to lt new
      (front-push s.pending.items kept l taken.0)
      (path_leads rows s.ranks.items s.path.items s.roots.items s.pending.items s.closed searched root is_last kept l.from l.to taken.0 over) fewer

  -- the search with fewer levels
  pub search_joined : l.to < length rows → 1 ≤ get_or s.ranks.items l.to 0 → (roots : List ℕ) → IsFrontOfRoots s.roots.items (get_or s.ranks.items l.to 0) roots
      → (0 < length roots → get_or roots (length roots - 1) 0 < get_or s.ranks.items l.to 0)
      → IsSearch rows s.ranks.items s.path.items roots kept s.closed
  search_joined lt some roots cut last = joined rows s.ranks.items s.path.items s.roots.items s.pending.items kept s.closed searched l.from l.to
      (from_open rows s.ranks.items s.path.items s.roots.items s.pending.items s.closed searched root is_last kept l.from l.to taken.0 over) there lt some
      (roots_below rows s.ranks.items s.path.items s.roots.items s.pending.items s.closed searched root is_last kept l.from l.to taken.0 over)
      (front-push s.pending.items kept l taken.0) roots cut last
