use Rattle.std.proofs.Common.{ℕ, ◌+◌, ◌≤◌, length, drop}
use Rattle.std.specs.Prelude.{filter_map}
use Rattle.rpm_qfeval.proofs.Vocabulary.{counts, direct, Header, parts_of_tree}
use Rattle.rpm_qfeval.proofs.sizes.elements_in.Given as goal

abbrev pub invariant-loop-i : goal.invariant-loop-i
invariant-loop-i l = record {
  few : (header : Header) (number : ℕ) → length (counts header number l.inner)
      ≤ l.seen + length (filter_map (direct header number) (drop l.i (parts_of_tree l.inner)));
  within : l.seen ≤ l.i;
}
