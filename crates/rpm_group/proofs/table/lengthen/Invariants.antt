use Rattle.std.proofs.Common.{◌≤◌, length}
use Rattle.rpm_group.proofs.Vocabulary.{SamePages}
use Rattle.rpm_group.proofs.table.lengthen.Given as goal

abbrev pub invariant-loop-k : goal.invariant-loop-k
invariant-loop-k l = record {
  long : l._k ≤ length l.table.items;
  same : SamePages l.initial.table.items l.table.items;
}
