use Rattle.std.proofs.Common.{◌≡◌, ◌+◌, ◌≤◌, length, drop}
use Rattle.rpm_header.proofs.Vocabulary.{data_from}
use Rattle.rpm_header.proofs.laying.data_end.Given as goal

abbrev pub invariant-loop-entry : goal.invariant-loop-entry
invariant-loop-entry l = record {
  small : l.end ≤ 67108864;
  same : l.end + length (data_from l.end (drop l.entry-index l.entries)) ≡ l.start + length (data_from l.start l.entries);
}
