use Rattle.std.proofs.Common.{◌≡◌, length}
use Rattle.rpm_graph.proofs.Vocabulary.{AreLeastNumbers, row_lists}
use Rattle.rpm_graph.proofs.grouping.least_numbers.Given as goal

abbrev pub invariant-loop-class : goal.invariant-loop-class
invariant-loop-class l = record {
  sized : length l.leasts.items ≡ l.class-index;
  leasts : AreLeastNumbers (row_lists l.members) l.class-index l.leasts.items;
}
