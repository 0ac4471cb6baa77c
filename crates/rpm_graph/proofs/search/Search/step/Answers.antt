use Rattle.std.proofs.Common.{◌≡◌, ◌+◌, [], ◌<◌, ◌≤◌, length, get_or, sym, subst, ◌∙◌, arith}
use Rattle.std.proofs.lemmas.List.{length-map, get_or_default}
use Rattle.rpm_graph.proofs.Vocabulary.{NoneWaits, row_lists}
use Rattle.rpm_graph.proofs.Closing.{closed_then, closed_work, closed_keeps}
use Rattle.rpm_graph.proofs.Steps.{row_read, set_keeps, none_waits, last_root}
use Rattle.rpm_graph.proofs.Taken.{there, search_entered, work_entered, search_joined}
use Rattle.rpm_graph.proofs.search.Search.step.Goals.{After-index-arg-1}
use Rattle.rpm_graph.proofs.search.Search.step.Goals as goal

pub close-requires-clause-rooted : goal.close-requires-clause-rooted
close-requires-clause-rooted c = c.requires.searched.rooted c.args.root (last_root c.args.self.now.roots.items c.args.root c.requires.last)

pub returns-in-None : goal.returns-in-None
returns-in-None c =
    let rows = row_lists c.args.rows.now in
    let s = c.args.self.now in
    let e = c.close.ensures in
    let h = c.in-None.ensures in
    let none : NoneWaits s.ranks.items s.pending.items c.args.root = subst (λ l. NoneWaits l s.pending.items c.args.root) c.deref.ensures.value h.none.0 in
    let done = none_waits rows s.ranks.items s.path.items s.roots.items s.pending.items s.closed c.requires.searched c.args.root c.requires.last none in
    let then = c.close.new.self.ranks.items in
    record {
      searched = rw (e.path, e.roots, e.pending, h.none.1, e.closed) (closed_then rows s.ranks.items s.path.items s.roots.items s.pending.items s.closed
          c.requires.searched c.requires.within c.args.root c.requires.last done then e.ranks);
      smaller = rw (e.roots, e.pending, h.none.1) (closed_work rows s.ranks.items s.path.items s.roots.items s.pending.items s.closed
          c.requires.searched c.requires.within c.args.root c.requires.last done then e.ranks (λ v. length (get_or rows v []) + 2));
      keeps = closed_keeps rows s.ranks.items s.path.items s.roots.items s.pending.items s.closed
          c.requires.searched c.requires.within c.args.root c.requires.last done then e.ranks;
    }

-- where the edge ends
end_in : (c : After-index-arg-1) → c.in-Some.link.to < length (row_lists c.args.rows.now)
end_in c =
    let l = c.in-Some.link in
    c.requires.within l.from l.to (there (row_lists c.args.rows.now) c.args.self.now c.requires.searched c.args.root c.requires.last c.deref.result.now
    c.deref.ensures.value c.take_waiting.new.pending.items l c.in-Some.ensures.some)

pub index-rank-requires : goal.index-rank-requires
index-rank-requires c = omega (arith, end_in c, c.requires.searched.sized)

pub bounds-rows-link : goal.bounds-rows-link
bounds-rows-link c =
    omega (arith, end_in (goal.at.bounds-rows-link c).After-index-arg-1, length-map c.args.rows.now (λ row. row.items))

pub offset_bounds-rows-link : goal.offset_bounds-rows-link
offset_bounds-rows-link c =
    let inside : c.in-Some.link.to < length c.args.rows.now =
    omega (arith, end_in (goal.at.offset_bounds-rows-link c).After-index-arg-1, length-map c.args.rows.now (λ row. row.items)) in
    omega (arith, inside, c.requires.small)

pub enter-requires : goal.enter-requires
enter-requires c = omega (arith, end_in (goal.at.enter-requires c).After-index-arg-1, c.requires.searched.sized)

pub returns-in_ok-enter-in-Some : goal.returns-in_ok-enter-in-Some
returns-in_ok-enter-in-Some c =
    let s = c.args.self.now in
    let rows = row_lists c.args.rows.now in
    let l = c.in-Some.link in
    let some = c.in-Some.ensures.some in
    let kept = c.take_waiting.new.pending.items in
    let lent = c.deref.result.now in
    let same = c.deref.ensures.value in
    let lt = end_in (goal.at.returns-in_ok-enter-in-Some c).After-index-arg-1 in
    let lt_ranks : l.to < length s.ranks.items = omega (arith, lt, c.requires.searched.sized) in
    let lt_rows : l.to < length c.args.rows.now = omega (arith, lt, length-map c.args.rows.now (λ row. row.items)) in
    let new : get_or s.ranks.items l.to 0 ≡ 0
    = get_or_default s.ranks.items l.to 0 c.index-rank.result.now lt_ranks ∙ sym c.index-rank.ensures ∙ c.if-rank-eq0.true in
    let row : c.deref-then-rank-eq0.result.now ≡ get_or rows l.to [] = c.deref-then-rank-eq0.ensures.value
    ∙ row_read c.args.rows.now l.to c.index-rows-link.result lt_rows c.index-rows-link.is in
    let t = c.in_ok-enter-in-Some.ensures in
    record {
      searched = rw (t.ranks, t.path, t.roots, t.pending, t.closed, row)
          (search_entered rows s c.requires.searched c.args.root c.requires.last lent same kept l some lt new);
      smaller = rw (t.ranks, t.roots, t.pending, row) (work_entered rows s c.requires.searched c.args.root c.requires.last lent same kept l some lt new);
      keeps = rw t.ranks (set_keeps s.ranks.items l.to (length s.path.items + 1) (omega arith));
    }

pub returns-else-rank-eq0-clause-searched : goal.returns-else-rank-eq0-clause-searched
returns-else-rank-eq0-clause-searched c =
    let s = c.args.self.now in
    let rows = row_lists c.args.rows.now in
    let l = c.in-Some.link in
    let e = c.in-Some.ensures in
    let lt = end_in (goal.at.returns-else-rank-eq0-clause-searched c).After-index-arg-1 in
    let lt_ranks : l.to < length s.ranks.items = omega (arith, lt, c.requires.searched.sized) in
    let rank : c.index-rank.result.now ≡ get_or s.ranks.items l.to 0
    = c.index-rank.ensures ∙ get_or_default s.ranks.items l.to c.index-rank.result.now 0 lt_ranks in
    let some : 1 ≤ get_or s.ranks.items l.to 0 = omega (arith, rank, c.if-rank-eq0.false) in
    search_joined rows s c.requires.searched c.args.root c.requires.last c.deref.result.now c.deref.ensures.value c.take_waiting.new.pending.items l e.some
    lt some c.join.new.roots.items (rw (sym rank) c.join.ensures.cut) (rw (sym rank) c.join.ensures.last)
