use Rattle.std.proofs.Common.{◌+◌, ◌*◌, ◌≤◌, length}
use Rattle.rpm_select.proofs.Vocabulary.{IsUnclosed, pieces, stands_for}
use Rattle.rpm_select.proofs.Back.{back_in, tries, IsWithin, IsUnclosedBack}
use Rattle.rpm_select.proofs.Going.{Goes}
use Rattle.rpm_select.proofs.matching.glob.Given as goal

abbrev pub invariant-loop-rest : goal.invariant-loop-rest
invariant-loop-rest l = record {
  goes : Goes (stands_for (pieces l.pattern) l.text) (pieces l.behind) l.left (back_in l.back);
  behind : length l.behind ≤ length l.pattern;
  within : IsWithin (length l.pattern) (length l.text) (length l.left) l.back;
  unclosed : IsUnclosed l.unclosed l.behind;
  unclosed_back : IsUnclosedBack l.unclosed l.back;
}

abbrev pub decreases-loop-rest : goal.decreases-loop-rest
decreases-loop-rest l = (length l.pattern + 1) * tries (length l.text) l.back + length l.behind
