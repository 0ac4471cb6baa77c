use Rattle.std.proofs.Common.{◌≡◌, ◌+◌, ◌/◌, ◌%◌, ◌<◌, ◌≤◌, ◌^◌, length, vec_len}
use Rattle.std.specs.Prelude.{IsTrue}
use Rattle.rpm_hindex.proofs.Vocabulary.{Idx, SameSeal, units_of, with_units}
use Rattle.rpm_outside.specs.Changes.{Changes}
use Rattle.rpm_hindex.proofs.parts.write_image.Given as goal

abbrev pub invariant-loop-bytes : goal.invariant-loop-bytes
invariant-loop-bytes g l = record {
  some : 0 < length l.bytes.items;
  whole : length l.bytes.items % 16 ≡ 0;
  room : 1 + length l.bytes.items / 16 ≤ 2 ^ 28;
  written : IsTrue g.D.Disk.tells → with_units 1 (units_of l.bytes.items) (g.D.Disk.files l.disk).idx
      ≡ with_units 1 (units_of l.initial.bytes.items) (g.D.Disk.files l.initial.disk).idx;
  changes : Changes g.D.Disk Idx SameSeal 0 l.initial.disk l.disk;
  faults : g.D.Disk.faults l.initial.disk ≤ g.D.Disk.faults l.disk;
}

abbrev pub decreases-loop-bytes : goal.decreases-loop-bytes
decreases-loop-bytes g l = vec_len l.bytes
