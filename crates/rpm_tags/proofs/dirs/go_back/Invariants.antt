use Rattle.std.proofs.Common.{◌≡◌, ◌≤◌, length}
use Rattle.rpm_tags.proofs.dirs.go_back.Given as goal

abbrev pub invariant-loop-i : goal.invariant-loop-i
invariant-loop-i l = record {
  kept : length l.recent ≡ 16;
  fewer : l.missed ≤ l.i;
}
