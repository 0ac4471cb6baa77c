use Rattle.std.proofs.Common.{◌≡◌, ℕ, ◌+◌, ◌*◌, ◌%◌, ◌<◌, ◌≤◌, List, map}
use Rattle.std.specs.Prelude.{IsTrue}
use Rattle.rpm_hindex.proofs.Vocabulary.{AsOften, follow, hash_of, Idx, index_in, OnlyReadsFile, row_at, sum_by, unit_at, units_at}
use Rattle.rpm_hindex.proofs.Chains.{behind_all}
use Rattle.rpm_hindex.proofs.chain.collect.Given as goal

abbrev pub invariant-loop-at : goal.invariant-loop-at
invariant-loop-at g l = record {
  within : 0 < l.at → l.at < l.extent.used;
  looks : OnlyReadsFile g.D.Disk Idx l.initial.disk l.disk;
  faults : g.D.Disk.faults l.initial.disk ≤ g.D.Disk.faults l.disk;
  so_far : IsTrue g.D.Disk.tells → (done : List ℕ)
      × AsOften l.kind l.key (map (row_at (unit_at (g.D.Disk.files l.initial.disk).idx)) done) l.hits.items
      × (follow (index_in l.extent.buckets (g.D.Disk.files l.initial.disk).idx) (hash_of l.kind l.key % l.extent.buckets) l.from l.from
      ≡ behind_all done (follow (index_in l.extent.buckets (g.D.Disk.files l.initial.disk).idx) (hash_of l.kind l.key % l.extent.buckets) l.at l.at))
      × (g.D.Disk.bytes_read l.disk Idx ≤ g.D.Disk.bytes_read l.initial.disk Idx + 16 * sum_by (units_at (unit_at (g.D.Disk.files l.initial.disk).idx)) done);
}

abbrev pub decreases-loop-at : goal.decreases-loop-at
decreases-loop-at g l = l.at
