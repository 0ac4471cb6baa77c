use Rattle.std.proofs.Common.{◌≡◌, ◌+◌, ◌*◌, ◌/◌, ◌≤◌, length, take}
use Rattle.rpm_hindex.proofs.Vocabulary.{AddsRows, CanGo, index_after, Idx, IsHonest, IsWhole, live_of, OnlyReads}
use Rattle.std.specs.Prelude.{IsTrue}
use Rattle.rpm_hindex.proofs.plan.add_rows.Given as goal

abbrev pub invariant-loop-i : goal.invariant-loop-i
invariant-loop-i g l = record {
  go : CanGo l.change;
  extent : l.change.extent ≡ l.initial.change.extent;
  tail : length l.change.tail.items / 16 ≡ live_of (take l.i l.rows);
  records : l.change.records ≡ l.initial.change.records + l.i;
  live : l.change.live ≡ l.initial.change.live + live_of (take l.i l.rows);
  adds : IsTrue g.D.Disk.tells → IsWhole l.initial.change.records l.initial.change.live
      (index_after l.initial.change (g.D.Disk.files l.initial.disk).idx) → AddsRows l.initial.change l.change (g.D.Disk.files l.initial.disk).idx
      (take l.i l.rows);
  honest : IsTrue g.D.Disk.tells → IsHonest l.initial.change (g.D.Disk.files l.initial.disk).idx → IsHonest l.change (g.D.Disk.files l.initial.disk).idx;
  looks : OnlyReads g.D.Disk Idx (16 * l.i) l.initial.disk l.disk;
  faults : g.D.Disk.faults l.initial.disk ≤ g.D.Disk.faults l.disk;
}
