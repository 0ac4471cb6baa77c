use Rattle.std.proofs.Common.{◌≡◌, ◌≤◌, ◌++◌, length, drop}
use Rattle.rpm_qfeval.proofs.Vocabulary.{bit_letters}
use Rattle.rpm_qfeval.proofs.flags.letters.Given as goal

abbrev pub invariant-loop-bit : goal.invariant-loop-bit
invariant-loop-bit l = record {
  few : length l.letters.items ≤ l.bit-index;
  whole : l.letters.items ++ bit_letters (drop l.bit-index l.rows) l.number ≡ bit_letters l.rows l.number;
}
