use Rattle.std.proofs.Common.{◌≡◌, ◌≤◌, take}
use Rattle.std.specs.Prelude.{IsTrue}
use Rattle.rpm_hindex.proofs.Vocabulary.{after_units, Idx, SameSeal}
use Rattle.rpm_outside.specs.Changes.{Changes}
use Rattle.rpm_hindex.proofs.writes.write_patches.Given as goal

abbrev pub invariant-loop-k : goal.invariant-loop-k
invariant-loop-k g l = record {
  written : IsTrue g.D.Disk.tells → (g.D.Disk.files l.disk).idx ≡ after_units (take l.k l.patches) (g.D.Disk.files l.initial.disk).idx;
  changes : Changes g.D.Disk Idx SameSeal 0 l.initial.disk l.disk;
  faults : g.D.Disk.faults l.initial.disk ≤ g.D.Disk.faults l.disk;
}
