use Rattle.std.proofs.Common.{◌≡◌, ◌≤◌, ◌+◌, ◌*◌, ◌%◌, drop}
use Rattle.rpm_pkgdb.proofs.Vocabulary.{sums}
use Rattle.rpm_pkgdb.proofs.checksum.byte_sums.Given as goal

abbrev pub invariant-loop-x : goal.invariant-loop-x
invariant-loop-x l = record {
  low : l.low ≤ l.a + 255 * l.x-index;
  high : l.high ≤ l.b + 1044720 * l.x-index;
  same : sums (l.low % 65521) (l.high % 65521) (drop l.x-index l.bytes) ≡ sums (l.a % 65521) (l.b % 65521) l.bytes;
}
