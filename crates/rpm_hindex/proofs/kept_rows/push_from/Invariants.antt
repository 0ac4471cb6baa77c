use Rattle.std.proofs.Common.{◌≡◌, ◌≤◌, ◌++◌, ℕ, List, map}
use Rattle.std.specs.Prelude.{IsTrue}
use Rattle.rpm_hindex.proofs.Vocabulary.{contains, filter, follow, Idx, index_in, is_kept, IsNextUnit, OnlyReadsFile, nat_cmp, row_at, unit_at}
use Rattle.rpm_hindex.proofs.Chains.{behind_all}
use Rattle.rpm_hindex.proofs.kept_rows.push_from.Given as goal

abbrev pub invariant-loop-at : goal.invariant-loop-at
invariant-loop-at g l = record {
  linked : IsNextUnit l.extent.buckets l.extent.used l.at;
  looks : OnlyReadsFile g.D.Disk Idx l.initial.disk l.disk;
  faults : g.D.Disk.faults l.initial.disk ≤ g.D.Disk.faults l.disk;
  so_far : IsTrue g.D.Disk.tells → (done : List ℕ)
      × (l.rows ≡ l.initial.rows ++ map (row_at (unit_at (g.D.Disk.files l.initial.disk).idx)) (filter (is_kept (λ p. contains nat_cmp l.dropped p)) done))
      × (follow (index_in l.extent.buckets (g.D.Disk.files l.initial.disk).idx) l.bucket l.from l.from
      ≡ behind_all done (follow (index_in l.extent.buckets (g.D.Disk.files l.initial.disk).idx) l.bucket l.at l.at));
}

abbrev pub decreases-loop-at : goal.decreases-loop-at
decreases-loop-at g l = l.at
