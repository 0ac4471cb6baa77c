use Rattle.std.proofs.Common.{◌≡◌, ◌≤◌, ◌+◌, ◌*◌, ◌%◌, length}
use Rattle.rpm_pkgdb.proofs.Vocabulary.{sums}
use Rattle.rpm_pkgdb.proofs.checksum.run_sums.Given as goal

abbrev pub invariant-loop-block : goal.invariant-loop-block
invariant-loop-block l = record {
  low : l.low + 255 * length l.rest ≤ 1044720;
  high : l.high + 1044720 * length l.rest ≤ 4011790320;
  same : sums (l.low % 65521) (l.high % 65521) l.rest ≡ sums l.a l.b l.bytes;
}

abbrev pub decreases-loop-block : goal.decreases-loop-block
decreases-loop-block l = length l.rest
