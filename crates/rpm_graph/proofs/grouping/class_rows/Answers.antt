use Rattle.std.proofs.Common.{◌≡◌, ◌<◌, [], length, get_or, drop, ap, subst, ◌∙◌, arith}
use Rattle.std.proofs.lemmas.List.{length-map, get_or_default, take_at}
use Rattle.rpm_graph.proofs.Vocabulary.{GainEnds, IsEdge, HaveEnds, row_lists}
use Rattle.rpm_graph.proofs.Classing.{ends_row}
use Rattle.rpm_graph.proofs.Steps.{row_read}
use Rattle.rpm_graph.proofs.grouping.class_rows.Goals as goal

pub put_ends-requires-clause-ends : goal.put_ends-requires-clause-ends
put_ends-requires-clause-ends c = λ i lt.
    let rows = row_lists c.args.rows.now in
    let k = c.loop-place.place in
    let k_in : k < length c.args.rows.now = omega arith in
    let row : c.deref-in-loop-place.result.now ≡ get_or rows k []
    = c.deref-in-loop-place.ensures.value ∙ row_read c.args.rows.now k c.index-rows-place.result k_in c.index-rows-place.is in
    let inside : i < length (get_or rows k []) = omega (arith, lt, ap length row) in
    let end = get_or (get_or rows k []) i 0 in
    let goes : IsEdge rows k end = (i, inside, get_or_default (get_or rows k []) i end 0 inside) in
    omega (arith, c.requires.within k end goes, c.requires.split.sized, ap length c.deref.ensures.value, ap (λ l. get_or l i 0) row)

pub loop-place-preserved : goal.loop-place-preserved
loop-place-preserved c =
    let rows = row_lists c.args.rows.now in
    let k = c.loop-place.place in
    let classes = c.args.split.now.classes.items in
    let ends = c.loop-place.ends in
    let next = c.put_ends.new.targets in
    let k_in : k < length c.args.rows.now = omega arith in
    let classes_in : k < length classes = omega (arith, k_in, c.requires.split.sized, length-map c.args.rows.now (λ r. r.items)) in
    let row : c.deref-in-loop-place.result.now ≡ get_or rows k []
    = c.deref-in-loop-place.ensures.value ∙ row_read c.args.rows.now k c.index-rows-place.result k_in c.index-rows-place.is in
    let class : c.index.result.now ≡ get_or classes k 0 = c.index.ensures ∙ get_or_default classes k c.index.result.now 0 classes_in in
    let gain : GainEnds classes (get_or classes k 0) (get_or rows k []) (length (get_or rows k [])) (row_lists ends.items) (row_lists next)
    = subst (λ x. GainEnds classes x (get_or rows k []) (length (get_or rows k [])) (row_lists ends.items) (row_lists next)) class
    (subst (λ l. GainEnds classes c.index.result.now l (length l) (row_lists ends.items) (row_lists next)) row
    (subst (λ l. GainEnds l c.index.result.now c.deref-in-loop-place.result.now (length c.deref-in-loop-place.result.now) (row_lists ends.items)
    (row_lists next))
    c.deref.ensures.value
    (subst (λ l. GainEnds c.deref.result.now c.index.result.now c.deref-in-loop-place.result.now (length c.deref-in-loop-place.result.now) (row_lists l)
    (row_lists next)) c.deref_mut.ensures.value c.in_ok-put_ends.ensures))) in
    let long : length next ≡ ends.len = c.put_ends.auto.targets ∙ c.deref_mut.ensures.len in
    rw (take_at next (drop (length next) ends.items) ends.len long) (record {
      sized = omega (arith, long, ends.ok.0, c.loop-place.invariant.sized);
      ends = ends_row rows classes k (row_lists ends.items) (row_lists next) c.loop-place.invariant.ends gain;
    })

pub returns-clause-ends : goal.returns-clause-ends
returns-clause-ends c =
    let is : c.loop-place.place ≡ length c.args.rows.now = omega (arith, c.loop-place.auto.place-end, c.loop-place-test.false) in
    subst (λ n. HaveEnds (row_lists c.args.rows.now) c.args.split.now.classes.items n (row_lists c.loop-place.ends.items)) is c.loop-place.invariant.ends
