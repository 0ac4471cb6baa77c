use Rattle.std.proofs.Common.{◌+◌, ◌*◌, drop}
use Rattle.rpm_qfeval.proofs.Vocabulary.{bytes, load, parts_of_tree, tree_of, Upto, weight}
use Rattle.rpm_qfeval.proofs.writing.+writing.Given as goal

abbrev pub decreases-put_part : goal.decreases-put_part
decreases-put_part g l = 2 * load l.part.now + 1

abbrev pub decreases-put_parts : goal.decreases-put_parts
decreases-put_parts g l = 2 * weight l.parts.now

abbrev pub invariant-put_parts-loop-i : goal.invariant-put_parts-loop-i
invariant-put_parts-loop-i g l = Upto g.O.Sink
    (bytes l.view l.number 0 l.parts) (bytes l.view l.number 0 (tree_of (drop l.i (parts_of_tree l.parts)))) l.initial.sink l.sink
