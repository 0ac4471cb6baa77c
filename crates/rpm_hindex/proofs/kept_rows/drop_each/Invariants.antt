use Rattle.std.proofs.Common.{◌≡◌, ◌+◌, ◌≤◌, length, drop}
use Rattle.std.specs.Prelude.{IsTrue}
use Rattle.rpm_hindex.proofs.Vocabulary.{AreStarts, CanGo, chains_bytes, contains, get, HasGone, HasLess, HasNoFault, Idx, index_in, is_kept, IsWithoutDropped, IsHonest}
use Rattle.rpm_hindex.proofs.Vocabulary.{IsWellFormed, kept_of, OnlyReadsFile, nat_cmp, StandWithin}
use Rattle.rpm_hindex.proofs.kept_rows.drop_each.Given as goal

abbrev pub invariant-loop-left : goal.invariant-loop-left
invariant-loop-left g l = record {
  go : CanGo l.change;
  extent : l.change.extent ≡ l.initial.change.extent;
  tail : l.change.tail ≡ l.initial.change.tail;
  few : l.left ≤ length l.rows;
  none : l.left ≡ length l.rows → l.change ≡ l.initial.change;
  stand : StandWithin l.initial.change.extent.buckets l.initial.change.extent.used (λ b. get nat_cmp l.starts b);
  starts : IsTrue g.D.Disk.tells → AreStarts (index_in l.initial.change.extent.buckets (g.D.Disk.files l.initial.disk).idx)
      (is_kept (λ p. contains nat_cmp l.change.dropped p)) (λ b. get nat_cmp l.starts b);
  less : IsTrue g.D.Disk.tells → IsWellFormed l.initial.change.extent.buckets (g.D.Disk.files l.initial.disk).idx → HasLess (drop l.left l.rows)
      (kept_of (index_in l.initial.change.extent.buckets (g.D.Disk.files l.initial.disk).idx) (is_kept (λ p. contains nat_cmp l.initial.change.dropped p)))
      (kept_of (index_in l.initial.change.extent.buckets (g.D.Disk.files l.initial.disk).idx) (is_kept (λ p. contains nat_cmp l.change.dropped p)));
  gone : IsTrue g.D.Disk.tells → HasNoFault (index_in l.initial.change.extent.buckets (g.D.Disk.files l.initial.disk).idx)
      → HasGone (drop l.left l.rows) l.initial.change l.change (index_in l.initial.change.extent.buckets (g.D.Disk.files l.initial.disk).idx);
  cuts : IsTrue g.D.Disk.tells → IsWellFormed l.initial.change.extent.buckets (g.D.Disk.files l.initial.disk).idx → length l.initial.change.tail.items
      ≡ 0 → IsWithoutDropped l.initial.change (g.D.Disk.files l.initial.disk).idx → IsWithoutDropped l.change (g.D.Disk.files l.initial.disk).idx;
  honest : IsTrue g.D.Disk.tells → IsHonest l.initial.change (g.D.Disk.files l.initial.disk).idx → IsHonest l.change (g.D.Disk.files l.initial.disk).idx;
  cost : IsTrue g.D.Disk.tells → IsWellFormed l.initial.change.extent.buckets (g.D.Disk.files l.initial.disk).idx
      → g.D.Disk.bytes_read l.disk Idx ≤ g.D.Disk.bytes_read l.initial.disk Idx + chains_bytes (index_in l.initial.change.extent.buckets
      (g.D.Disk.files l.initial.disk).idx) (drop l.left l.rows);
  looks : OnlyReadsFile g.D.Disk Idx l.initial.disk l.disk;
  faults : g.D.Disk.faults l.initial.disk ≤ g.D.Disk.faults l.disk;
}

abbrev pub decreases-loop-left : goal.decreases-loop-left
decreases-loop-left g l = l.left
