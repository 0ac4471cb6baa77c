use Rattle.std.proofs.Common.{◌≤◌, ◌<◌, ◌++◌, ◌∷◌, [], length, map, sym, ap, ◌∙◌, subst, arith}
use Rattle.std.proofs.lemmas.List.{take_all}
use Rattle.rpm_db.proofs.Vocabulary.{AreInOrder, row_of, Standing, times}
use Rattle.rpm_db.proofs.Ordered.{moved_rows, placed_more, sorted_rows}
use Rattle.rpm_db.proofs.netting.sorted.Goals as goal

pub loop-i-preserved : goal.loop-i-preserved
loop-i-preserved c =
    let all = c.sort.new.self.items in
    let below : c.loop-i.i < length all = omega (arith, c.loop-i-test.true, c.len-i-end.ensures, c.sort.new.self.ok.0) in
    record {
      so_far = placed_more all c.loop-i.i c.index.result.now c.loop-i.sorted c.push_standing.new.rows below c.loop-i.invariant.so_far
          (c.in_ok-push_standing.ensures ∙ ap (λ (s : Standing). c.loop-i.sorted ++ row_of s ∷ []) c.index.ensures);
    }

pub returns-clause-order : goal.returns-clause-order
returns-clause-order c =
    let all = c.sort.new.self.items in
    let past : length all ≤ c.loop-i.i = omega (arith, c.loop-i-test.false, c.len-i-end.ensures, c.sort.new.self.ok.0) in
    subst AreInOrder (sym (c.loop-i.invariant.so_far ∙ ap (map row_of) (take_all c.loop-i.i all past))) (sorted_rows all c.in_ok-sort.ensures.sorted)

pub returns-clause-same : goal.returns-clause-same
returns-clause-same c = λ row.
    let all = c.sort.new.self.items in
    let past : length all ≤ c.loop-i.i = omega (arith, c.loop-i-test.false, c.len-i-end.ensures, c.sort.new.self.ok.0) in
    ap (times row) (c.loop-i.invariant.so_far ∙ ap (map row_of) (take_all c.loop-i.i all past))
    ∙ moved_rows c.in_ok-all.all.items all c.sort.ensures.permutation row ∙ ap (times row) c.in_ok-all.ensures
