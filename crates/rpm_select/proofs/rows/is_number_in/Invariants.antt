use Rattle.std.proofs.Common.{◌≡◌, ◌==◌, drop}
use Rattle.rpm_select.proofs.Vocabulary.{list_any}
use Rattle.rpm_select.proofs.rows.is_number_in.Given as goal

abbrev pub invariant-loop-i : goal.invariant-loop-i
invariant-loop-i l = list_any (λ m. m == l.wanted) (drop l.i l.numbers) ≡ list_any (λ m. m == l.wanted) l.numbers
