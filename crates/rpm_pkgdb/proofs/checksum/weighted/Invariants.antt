use Rattle.std.proofs.Common.{◌≡◌, ◌≤◌, ◌+◌, ◌*◌, drop}
use Rattle.rpm_pkgdb.proofs.Vocabulary.{weights}
use Rattle.rpm_pkgdb.proofs.checksum.weighted.Given as goal

abbrev pub invariant-loop-x : goal.invariant-loop-x
invariant-loop-x l = record {
  weight : l.weight + l.x-index ≡ 64;
  rest : l.weighted + weights (drop l.x-index l.block) ≡ weights l.block;
  few : l.weighted ≤ 16320 * l.x-index;
}
