use Rattle.std.proofs.Common.{◌≡◌, ℕ, ◌+◌, ◌-◌, ◌*◌, ◌/◌, ◌<◌, ◌≤◌, false}
use Rattle.rpm_group.proofs.Vocabulary.{is_held}
use Rattle.rpm_group.proofs.scan.skip_absent.Given as goal

abbrev pub invariant-loop-q : goal.invariant-loop-q
invariant-loop-q l = record {
  small : l.q ≤ 2097152;
  between : (i : ℕ) → l.from ≤ i → i < 256 * l.q → is_held l.table.items i ≡ false;
}

abbrev pub decreases-loop-q : goal.decreases-loop-q
decreases-loop-q l = (l.end + 255) / 256 - l.q
