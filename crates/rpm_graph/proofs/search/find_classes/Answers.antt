use Rattle.std.proofs.Common.{◌≡◌, ℕ, ◌+◌, ◌<◌, [], length, get_or, drop, replicate, ap, subst, ◌∙◌, arith}
use Rattle.std.proofs.lemmas.List.{length-map, take_at}
use Rattle.rpm_graph.proofs.Vocabulary.{IsSearch, row_lists}
use Rattle.rpm_graph.proofs.Ends.{fresh, split_at_end}
use Rattle.rpm_graph.proofs.search.find_classes.Goals as goal

pub loop-place-init : goal.loop-place-init
loop-place-init c =
    let rows = row_lists c.args.rows.now in
    let e = c.in_ok-search.ensures in
    record {
      searched = rw (e.ranks, e.path, e.roots, e.pending, e.closed)
          (subst (λ n. IsSearch rows (replicate n 0) [] [] [] 0) (length-map c.args.rows.now (λ row. row.items)) (fresh rows));
      empty = e.path;
      seen = λ v lt. absurd (omega (arith, lt));
    }

pub returns : goal.returns
returns c =
    let rows = row_lists c.args.rows.now in
    let s = c.loop-place.search in
    let kept = c.loop-place.invariant in
    let low = c.lower.ensures in
    let classes = c.lower.new.ranks in
    let count = length-map c.args.rows.now (λ row. row.items) in
    let long : length classes ≡ s.ranks.len = low.length_is ∙ c.deref_mut.ensures.len in
    let sized : length classes ≡ length s.ranks.items = low.length_is ∙ ap length c.deref_mut.ensures.value in
    let lower : (v : ℕ) → v < length rows → get_or classes v 0 + (length rows + 1) ≡ get_or s.ranks.items v 0
    = λ v lt. omega (
      arith,
      low.before v (omega (arith, lt, kept.searched.sized, ap length c.deref_mut.ensures.value)),
      count,
      ap (λ l. get_or l v 0) c.deref_mut.ensures.value,
    ) in
    rw (take_at classes (drop (length classes) s.ranks.items) s.ranks.len long)
    (split_at_end rows s.ranks.items s.path.items s.roots.items s.pending.items s.closed kept.searched (ap length kept.empty) c.requires.within
    (λ v lt. kept.seen v (omega (arith, lt, count, c.loop-place-test.false))) classes sized lower)
