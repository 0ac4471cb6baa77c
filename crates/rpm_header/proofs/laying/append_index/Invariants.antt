use Rattle.std.proofs.Common.{◌≡◌, ◌+◌, ◌≤◌, ◌++◌, length, drop}
use Rattle.rpm_header.proofs.Vocabulary.{data_from, index_from}
use Rattle.rpm_header.proofs.laying.append_index.Given as goal

abbrev pub invariant-loop-entry : goal.invariant-loop-entry
invariant-loop-entry l = record {
  small : l.end + length (data_from l.end (drop l.entry-index l.entries)) ≤ 67108864;
  written : l.out.items ++ index_from l.end (drop l.entry-index l.entries) ≡ l.fn.out.items ++ index_from l.front l.entries;
}
