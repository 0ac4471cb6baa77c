use Rattle.std.proofs.Common.{◌≡◌, ℕ, ◌≤◌, length}
use Rattle.rpm_group.proofs.Vocabulary.{page_in}
use Rattle.rpm_group.proofs.leaf.lengthen.Given as goal

abbrev pub invariant-loop-k : goal.invariant-loop-k
invariant-loop-k l = record {
  long : l._k ≤ length l.leaf.items;
  same : (k : ℕ) → page_in l.leaf k ≡ page_in l.initial.leaf k;
}
