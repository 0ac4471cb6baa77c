use Rattle.std.proofs.Common.{◌≡◌, drop}
use Rattle.std.specs.Prelude.{slice_get, filter_map}
use Rattle.rpm_qfeval.proofs.Vocabulary.{counts, direct, parts_of_tree}
use Rattle.rpm_qfeval.proofs.sizes.count_rounds.Given as goal

abbrev pub invariant-loop-i : goal.invariant-loop-i
invariant-loop-i l = slice_get (filter_map (direct l.view l.number) (drop l.i (parts_of_tree l.inner))) 0 ≡ slice_get (counts l.view l.number l.inner) 0
