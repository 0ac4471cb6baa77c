use Rattle.std.proofs.Common.{◌≡◌, ◌≤◌, ◌<◌, ◌+◌, ◌^◌, false, length, drop}
use Rattle.rpm_qfeval.proofs.Vocabulary.{digits}
use Rattle.rpm_qfeval.proofs.Glyphs.{onto}
use Rattle.rpm_qfeval.proofs.digits.digits_in.Given as goal

abbrev pub invariant-loop-left : goal.invariant-loop-left
invariant-loop-left l = record {
  room : l.left < 8 ^ l.start;
  some : 0 < l.start;
  within : l.start ≤ 22;
  long : length l.bytes ≡ 22;
  whole : onto (l.start + 42) l.base l.left (drop l.start l.bytes) ≡ digits l.base false l.number;
}

abbrev pub decreases-loop-left : goal.decreases-loop-left
decreases-loop-left l = l.left
