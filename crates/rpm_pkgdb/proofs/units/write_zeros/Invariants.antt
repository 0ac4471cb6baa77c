use Rattle.rpm_pkgdb.proofs.Vocabulary.{blank, Pkg, SameOutside, unit_at, Writes}
use Rattle.std.proofs.Common.{◌≡◌, ℕ, ◌-◌, ◌<◌, ◌≤◌, IsTrue}
use Rattle.rpm_pkgdb.proofs.Changing.{done}
use Rattle.rpm_pkgdb.proofs.units.write_zeros.Given as goal

abbrev pub invariant-loop-next : goal.invariant-loop-next
invariant-loop-next g l = record {
  from : l.at ≤ l.next;
  to : l.next ≤ l.end;
  zeros : IsTrue g.D.Disk.tells → (i : ℕ) → l.at ≤ i → i < l.next → unit_at (g.D.Disk.files l.disk).pkg i ≡ blank;
  writes : Writes g.D.Disk Pkg (SameOutside l.at l.count) 0 done l.initial.disk l.disk;
}

abbrev pub decreases-loop-next : goal.decreases-loop-next
decreases-loop-next g l = l.end - l.next
