use Rattle.std.proofs.Common.{◌≡◌, ◌≤◌, length}
use Rattle.rpm_header.proofs.Vocabulary.{after_texts, zeros}
use Rattle.rpm_header.proofs.zeros.pass_blocks.Given as goal

abbrev pub invariant-loop-rest : goal.invariant-loop-rest
invariant-loop-rest l = record {
  same : after_texts l.left l.rest ≡ after_texts l.count l.bytes;
  more : l.left ≤ zeros l.rest;
}

abbrev pub decreases-loop-rest : goal.decreases-loop-rest
decreases-loop-rest l = length l.rest
