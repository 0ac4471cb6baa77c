use Rattle.std.proofs.Common.{ℕ, ◌+◌, ◌*◌, ◌<◌, ◌≤◌, ◌≡◌, ◌++◌, List, false}
use Rattle.std.specs.Prelude.{IsTrue}
use Rattle.rpm_hindex.proofs.Vocabulary.{contains, filter, HasNone, Idx, index_in, is_kept, IsFront, IsHeadWithin, IsLastPlace, IsNextUnit, IsPath, OnlyReadsFile, nat_cmp}
use Rattle.rpm_hindex.proofs.Vocabulary.{sum_by, unit_at, units_at}
use Rattle.rpm_hindex.proofs.spots.find_spot.Given as goal

abbrev pub invariant-loop-at : goal.invariant-loop-at
invariant-loop-at g l = record {
  linked : IsNextUnit l.extent.buckets l.extent.used l.at;
  before : IsHeadWithin l.extent.used l.before;
  front : IsFront l.extent.buckets l.before;
  looks : OnlyReadsFile g.D.Disk Idx l.initial.disk l.disk;
  dropped : (p : ℕ) → l.last < p → p ≤ l.at → contains nat_cmp l.dropped p ≡ false;
  faults : g.D.Disk.faults l.initial.disk ≤ g.D.Disk.faults l.disk;
  so_far : IsTrue g.D.Disk.tells → (front : List ℕ)
      → IsPath (index_in l.extent.buckets (g.D.Disk.files l.initial.disk).idx) l.bucket l.from front l.end → (done : List ℕ) × (left : List ℕ)
      × (front ≡ done ++ left)
      × IsPath (index_in l.extent.buckets (g.D.Disk.files l.initial.disk).idx) l.bucket l.from done l.at
      × IsPath (index_in l.extent.buckets (g.D.Disk.files l.initial.disk).idx) l.bucket l.at left l.end
      × IsLastPlace (unit_at (g.D.Disk.files l.initial.disk).idx) (filter (is_kept (λ p. contains nat_cmp l.dropped p)) done) l.before
      × HasNone (unit_at (g.D.Disk.files l.initial.disk).idx) (is_kept (λ p. contains nat_cmp l.dropped p))
      (record { kind = l.row.kind; key = l.row.key.now; number = l.row.number; place = l.row.place }) done
      × (g.D.Disk.bytes_read l.disk Idx ≤ g.D.Disk.bytes_read l.initial.disk Idx + 16 * sum_by (units_at (unit_at (g.D.Disk.files l.initial.disk).idx)) done);
}

abbrev pub decreases-loop-at : goal.decreases-loop-at
decreases-loop-at g l = l.at
