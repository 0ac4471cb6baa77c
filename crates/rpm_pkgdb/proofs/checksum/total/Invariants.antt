use Rattle.std.proofs.Common.{◌≡◌, ◌≤◌, ◌*◌, take}
use Rattle.rpm_pkgdb.proofs.Vocabulary.{sum}
use Rattle.rpm_pkgdb.proofs.checksum.total.Given as goal

abbrev pub invariant-loop-x : goal.invariant-loop-x
invariant-loop-x l = record { total : l.total ≡ sum (take l.x-index l.block); few : l.total ≤ 255 * l.x-index }
