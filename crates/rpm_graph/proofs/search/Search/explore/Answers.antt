use Rattle.std.proofs.Common.{◌≡◌, ◌+◌, ◌<◌, [], length, get_or, sym, ap, ◌∙◌, arith}
use Rattle.std.proofs.lemmas.List.{length-map, get_or_default, get_or-set_same}
use Rattle.rpm_graph.proofs.Vocabulary.{row_lists}
use Rattle.rpm_graph.proofs.Entering.{entered}
use Rattle.rpm_graph.proofs.Ends.{none_open}
use Rattle.rpm_graph.proofs.Fronts.{whole_front}
use Rattle.rpm_graph.proofs.Steps.{row_read, set_keeps}
use Rattle.rpm_graph.proofs.search.Search.explore.Goals as goal

pub loop-last-init : goal.loop-last-init
loop-last-init c =
    let s = c.args.self.now in
    let v = c.args.place in
    let rows = row_lists c.args.rows.now in
    let lt : v < length rows = omega (arith, c.requires.inside, length-map c.args.rows.now (λ row. row.items)) in
    let lt_ranks : v < length s.ranks.items = omega (arith, lt, c.requires.searched.sized) in
    let zero : c.index.result.now ≡ 0 = omega arith in
    let new : get_or s.ranks.items v 0 ≡ 0 = get_or_default s.ranks.items v 0 c.index.result.now lt_ranks ∙ sym c.index.ensures ∙ zero in
    let row : c.deref.result.now ≡ get_or rows v [] = c.deref.ensures.value ∙ row_read c.args.rows.now v c.index-rows-place.result c.requires.inside
    c.index-rows-place.is in
    let t = c.in_ok-enter.ensures in
    let empty : length s.path.items ≡ 0 = ap length c.requires.empty in
    record {
      searched = rw (t.ranks, t.path, t.roots, t.pending, t.closed, row) (entered rows s.ranks.items s.path.items s.roots.items s.pending.items
          s.pending.items s.closed c.requires.searched v lt new (whole_front s.pending.items v)
          (λ x o. absurd (none_open rows s.ranks.items s.path.items s.roots.items s.pending.items s.closed c.requires.searched empty x o)));
      keeps = rw t.ranks (set_keeps s.ranks.items v (length s.path.items + 1) (omega arith));
      seen = rw t.ranks (let at = get_or-set_same s.ranks.items v (length s.path.items + 1) 0 lt_ranks in omega (arith, at));
    }
