use Rattle.std.proofs.Common.{◌≡◌, ◌≤◌}
use Rattle.std.specs.Prelude.{IsTrue}
use Rattle.rpm_hindex.proofs.Vocabulary.{contains, Idx, index_in, is_kept, kept_below, OnlyReadsFile, nat_cmp}
use Rattle.rpm_hindex.proofs.plan.kept_rows.Given as goal

abbrev pub invariant-loop-bucket : goal.invariant-loop-bucket
invariant-loop-bucket g l = record {
  so_far : IsTrue g.D.Disk.tells → l.rows ≡ kept_below (index_in l.extent.buckets (g.D.Disk.files l.initial.disk).idx)
      (is_kept (λ p. contains nat_cmp l.dropped p)) l.bucket;
  looks : OnlyReadsFile g.D.Disk Idx l.initial.disk l.disk;
  faults : g.D.Disk.faults l.initial.disk ≤ g.D.Disk.faults l.disk;
}
