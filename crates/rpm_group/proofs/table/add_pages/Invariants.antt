use Rattle.rpm_group.proofs.Vocabulary.{AreThere, SameHeld}
use Rattle.rpm_group.proofs.table.add_pages.Given as goal

abbrev pub invariant-loop-q : goal.invariant-loop-q
invariant-loop-q l = record {
  same : SameHeld l.fn.table.items l.table.items;
  there : AreThere l.first l.q l.table.items;
}
