use Rattle.std.proofs.Common.{◌≡◌, ◌-◌, true}
use Rattle.rpm_header.proofs.Vocabulary.{are_ended, after_texts}
use Rattle.rpm_header.proofs.bytes.skip_texts.Given as goal

abbrev pub invariant-loop : goal.invariant-loop
invariant-loop l = record {
  ended : are_ended (l.count - l.counter) l.rest ≡ true;
  same : after_texts (l.count - l.counter) l.rest ≡ after_texts l.count l.bytes;
}
