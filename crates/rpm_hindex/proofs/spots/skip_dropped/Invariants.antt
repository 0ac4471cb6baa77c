use Rattle.std.proofs.Common.{◌≡◌, ℕ, ◌+◌, ◌*◌, ◌≤◌, List, [], ◌++◌}
use Rattle.std.specs.Prelude.{IsTrue}
use Rattle.rpm_hindex.proofs.Vocabulary.{contains, filter, Idx, index_in, is_kept, IsNextUnit, IsPath, OnlyReadsFile, nat_cmp, sum_by, unit_at, units_at}
use Rattle.rpm_hindex.proofs.spots.skip_dropped.Given as goal

abbrev pub invariant-loop-at : goal.invariant-loop-at
invariant-loop-at g l = record {
  linked : IsNextUnit l.extent.buckets l.extent.used l.at;
  looks : OnlyReadsFile g.D.Disk Idx l.initial.disk l.disk;
  faults : g.D.Disk.faults l.initial.disk ≤ g.D.Disk.faults l.disk;
  so_far : IsTrue g.D.Disk.tells → (b : ℕ) (front : List ℕ)
      → IsPath (index_in l.extent.buckets (g.D.Disk.files l.initial.disk).idx) b l.from front l.end → (done : List ℕ) × (left : List ℕ)
      × (front ≡ done ++ left)
      × IsPath (index_in l.extent.buckets (g.D.Disk.files l.initial.disk).idx) b l.from done l.at
      × IsPath (index_in l.extent.buckets (g.D.Disk.files l.initial.disk).idx) b l.at left l.end
      × (filter (is_kept (λ p. contains nat_cmp l.dropped p)) done ≡ [])
      × (g.D.Disk.bytes_read l.disk Idx ≤ g.D.Disk.bytes_read l.initial.disk Idx + 16 * sum_by (units_at (unit_at (g.D.Disk.files l.initial.disk).idx)) done);
}

abbrev pub decreases-loop-at : goal.decreases-loop-at
decreases-loop-at g l = l.at
