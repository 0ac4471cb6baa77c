use Rattle.rpm_pkgdb.proofs.Vocabulary.{Pkg, SameOutside, unit_at, Writes}
use Rattle.std.proofs.Common.{◌≡◌, ℕ, ◌-◌, ◌+◌, ◌*◌, ◌<◌, ◌≤◌, IsTrue, length}
use Rattle.rpm_pkgdb.proofs.Changing.{done}
use Rattle.rpm_pkgdb.proofs.added_page.copy_blocks.Given as goal

abbrev pub invariant-loop-done : goal.invariant-loop-done
invariant-loop-done g l = record {
  to_end : l.done ≤ l.count;
  copied : IsTrue g.D.Disk.tells → (i : ℕ) → i < l.done
      → unit_at (g.D.Disk.files l.disk).pkg (l.to + i) ≡ unit_at (g.D.Disk.files l.initial.disk).pkg (l.from + i);
  long : IsTrue g.D.Disk.tells → 0 < l.done → l.to + l.done ≤ length (g.D.Disk.files l.disk).pkg;
  writes : Writes g.D.Disk Pkg (SameOutside l.to l.count) (16 * l.done) done l.initial.disk l.disk;
}

abbrev pub decreases-loop-done : goal.decreases-loop-done
decreases-loop-done g l = l.count - l.done
