use Rattle.std.proofs.Common.{◌≡◌, ℕ, ◌*◌, ◌<◌, length, take, get_or}
use Rattle.rpm_header.proofs.Vocabulary.{zeros}
use Rattle.rpm_header.proofs.places.count_strides.Given as goal

abbrev pub invariant-loop-k : goal.invariant-loop-k
invariant-loop-k l = record {
  seen : l.seen ≡ zeros (take (l.k * l.stride) l.bytes);
  size : length l.sums ≡ length l.initial.sums;
  each : (j : ℕ) → j < l.k → get_or l.sums j 0 ≡ zeros (take (j * l.stride) l.bytes);
}
