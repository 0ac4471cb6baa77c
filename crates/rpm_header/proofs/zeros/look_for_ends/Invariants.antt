use Rattle.std.proofs.Common.{◌≡◌, ◌≤◌, length}
use Rattle.rpm_header.proofs.Vocabulary.{are_ended}
use Rattle.rpm_header.proofs.zeros.look_for_ends.Given as goal

abbrev pub invariant-loop-rest : goal.invariant-loop-rest
invariant-loop-rest l = record {
  same : are_ended l.left l.rest ≡ are_ended l.count l.bytes;
  within : length l.rest ≤ length l.bytes;
}

abbrev pub decreases-loop-rest : goal.decreases-loop-rest
decreases-loop-rest l = length l.rest
