use Rattle.std.proofs.Common.{◌≢◌, ℕ, ◌<◌, ◌≤◌, get_or}
use Rattle.rpm_select.proofs.piece.unclosed_len.Given as goal

abbrev pub invariant-loop-i : goal.invariant-loop-i
invariant-loop-i l = record {
  within : l.closed ≤ l.i;
  none : (k : ℕ) → l.closed ≤ k → k < l.i → get_or l.glob k 0 ≢ 93;
}
