use Rattle.std.proofs.Common.{◌≡◌, ◌-◌, true}
use Rattle.rpm_header.proofs.Vocabulary.{are_ended}
use Rattle.rpm_header.proofs.Stored.{IsPast}
use Rattle.rpm_header.proofs.bytes.texts_end.Given as goal

abbrev pub invariant-loop : goal.invariant-loop
invariant-loop l = record {
  ended : are_ended (l.count - l.counter) l.rest ≡ true;
  past : IsPast l.count (l.count - l.counter) l.bytes l.rest;
}
