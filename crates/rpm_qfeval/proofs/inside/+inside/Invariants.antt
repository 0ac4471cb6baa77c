use Rattle.std.proofs.Common.{◌≡◌, ◌+◌, ◌*◌, drop}
use Rattle.rpm_qfeval.proofs.Vocabulary.{bytes, load, parts_of_tree, tree_of, Upto, weight}
use Rattle.rpm_qfeval.proofs.inside.+inside.Given as goal

abbrev pub decreases-put_inner_part : goal.decreases-put_inner_part
decreases-put_inner_part g l = 3 * load l.part.now + 1

abbrev pub decreases-put_part_at : goal.decreases-put_part_at
decreases-put_part_at g l = 3 * load l.part.now + 2

abbrev pub decreases-put_round : goal.decreases-put_round
decreases-put_round g l = 3 * weight l.inner.now

abbrev pub invariant-put_round-loop-i : goal.invariant-put_round-loop-i
invariant-put_round-loop-i g l = record {
  columns : l.columns ≡ l.initial.columns;
  ready : l.ready ≡ l.initial.ready;
  upto : Upto g.O.Sink (bytes l.view l.number l.round l.inner)
      (bytes l.view l.number l.round (tree_of (drop l.i (parts_of_tree l.inner)))) l.initial.sink l.sink;
}
