use Rattle.std.proofs.Common.{◌≡◌, drop}
use Rattle.std.specs.Prelude.{filter_map}
use Rattle.rpm_qfeval.proofs.Vocabulary.{counts, different, direct, parts_of_tree}
use Rattle.rpm_qfeval.proofs.Counts.{differs_from}
use Rattle.rpm_qfeval.proofs.sizes.different.Given as goal

abbrev pub invariant-loop-i : goal.invariant-loop-i
invariant-loop-i l = differs_from l.seen (filter_map (direct l.view l.number) (drop l.i (parts_of_tree l.inner))) ≡ different (counts l.view l.number l.inner)
