use Rattle.std.proofs.Common.{◌≡◌, ◌+◌, ◌-◌, ◌≤◌, length, take, drop}
use Rattle.rpm_db.proofs.Vocabulary.{Row, times}
use Rattle.rpm_db.proofs.Apart.{NoneIsShared}
use Rattle.rpm_db.proofs.netting.parted.Given as goal

abbrev pub invariant-loop-i : goal.invariant-loop-i
invariant-loop-i l = record {
  drops_in : l.i ≤ length l.drops;
  adds_in : l.j ≤ length l.adds;
  balanced : (row : Row) → times row (take l.i l.drops) + times row l.new ≡ times row (take l.j l.adds) + times row l.gone;
  apart : NoneIsShared l.gone l.new (drop l.i l.drops) (drop l.j l.adds);
}

abbrev pub decreases-loop-i : goal.decreases-loop-i
decreases-loop-i l = (length l.drops - l.i) + (length l.adds - l.j)
