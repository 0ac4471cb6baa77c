use Rattle.std.proofs.Common.{◌≡◌, drop}
use Rattle.rpm_hindex.proofs.Vocabulary.{fnv}
use Rattle.rpm_hindex.proofs.records.fnv.Given as goal

abbrev pub invariant-loop-b : goal.invariant-loop-b
invariant-loop-b l = fnv l.hash (drop l.b-index l.bytes) ≡ fnv l.initial.hash l.bytes
