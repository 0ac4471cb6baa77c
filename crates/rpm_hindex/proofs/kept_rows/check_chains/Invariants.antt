use Rattle.std.proofs.Common.{ℕ, ◌<◌, ◌≤◌}
use Rattle.std.specs.Prelude.{IsTrue, IsOk}
use Rattle.rpm_hindex.proofs.Vocabulary.{chain, Idx, index_in, OnlyReadsFile}
use Rattle.rpm_hindex.proofs.kept_rows.check_chains.Given as goal

abbrev pub invariant-loop-bucket : goal.invariant-loop-bucket
invariant-loop-bucket g l = record {
  none : IsTrue g.D.Disk.tells → (b : ℕ) → b < l.bucket → IsOk (chain (index_in l.extent.buckets (g.D.Disk.files l.initial.disk).idx) b);
  looks : OnlyReadsFile g.D.Disk Idx l.initial.disk l.disk;
  faults : g.D.Disk.faults l.initial.disk ≤ g.D.Disk.faults l.disk;
}
