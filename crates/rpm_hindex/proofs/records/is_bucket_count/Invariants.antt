use Rattle.std.proofs.Common.{◌≡◌, ℕ, ◌<◌, ◌*◌, ◌^◌}
use Rattle.rpm_hindex.proofs.records.is_bucket_count.Given as goal

abbrev pub invariant-loop-k : goal.invariant-loop-k
invariant-loop-k l = (j : ℕ) → j < l.k → l.buckets ≡ 64 * 2 ^ j → ⊥
