use Rattle.std.proofs.Common.{◌≡◌, ℕ, ◌≤◌, ◌*◌, ◌+◌, ◌^◌, ◌-◌}
use Rattle.rpm_hindex.proofs.Vocabulary.{bucket_count, doubled_buckets}
use Rattle.rpm_hindex.proofs.records.bucket_count.Given as goal

abbrev pub invariant-loop-buckets : goal.invariant-loop-buckets
invariant-loop-buckets l = record {
  some : 64 ≤ l.buckets;
  most : l.buckets ≤ 2 ^ 60;
  count : (n : ℕ) × (l.records ≤ 2 * l.buckets + n) × (doubled_buckets n l.buckets l.records ≡ bucket_count l.records);
}

abbrev pub decreases-loop-buckets : goal.decreases-loop-buckets
decreases-loop-buckets l = l.records - l.buckets
