use Rattle.std.proofs.Common.{◌≡◌, ℕ, ◌*◌, ◌≤◌, ◌<◌, length, drop, get_or}
use Rattle.rpm_header.proofs.Vocabulary.{zeros}
use Rattle.rpm_header.proofs.ends.ZeroSums.new.Given as goal

abbrev pub invariant-loop-k : goal.invariant-loop-k
invariant-loop-k l = record {
  seen : l.seen ≡ zeros (drop (l.k * l.stride) l.section);
  size : length l.sums ≡ 4096;
  each : (j : ℕ) → l.k ≤ j → j < 4096 → get_or l.sums j 0 ≡ zeros (drop (j * l.stride) l.section);
}
