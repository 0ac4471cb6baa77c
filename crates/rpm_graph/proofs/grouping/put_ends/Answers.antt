use Rattle.std.proofs.Common.{◌<◌, length, get_or, refl, arith}
use Rattle.std.proofs.lemmas.List.{length-map}
use Rattle.rpm_graph.proofs.Vocabulary.{row_lists}
use Rattle.rpm_graph.proofs.Gathering.{ends_skip, ends_more}
use Rattle.rpm_graph.proofs.grouping.put_ends.Goals as goal
use Rattle.rpm_graph.proofs.grouping.put_ends.Goals.{then-classes-to+in_ok-push_link, else-classes-to}

pub loop-to-preserved : goal.loop-to-preserved
loop-to-preserved c =
    let classes = c.args.classes.now in
    let row = c.args.row.now in
    let k = c.loop-to.to-index in
    let before = row_lists c.args.targets.now in
    let now = row_lists c.loop-to.targets in
    let inside : c.args.class < length before = omega (arith, c.requires.inside, length-map c.args.targets.now (λ r. r.items)) in
    elim c.if-classes-to.branch [
      | then-classes-to+in_ok-push_link w ↦
          rw (w.targets-is, w.in_ok-push_link.ensures) (ends_more classes c.args.class row k before now c.loop-to.invariant inside
          (get_or classes (get_or row k 0) 0) refl w.if-classes-to.true)
      | else-classes-to w ↦ rw w.targets-is (ends_skip classes c.args.class row k before now c.loop-to.invariant w.if-classes-to.false)
    ]
