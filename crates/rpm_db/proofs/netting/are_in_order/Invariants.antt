use Rattle.std.proofs.Common.{◌≡◌, ℕ, ◌+◌, ◌<◌, false}
use Rattle.rpm_db.proofs.Vocabulary.{is_row_before, row_nth}
use Rattle.rpm_db.proofs.netting.are_in_order.Given as goal

abbrev pub invariant-loop-i : goal.invariant-loop-i
invariant-loop-i l = record { so_far : (k : ℕ) → k + 1 < l.i → is_row_before (row_nth l.rows (k + 1)) (row_nth l.rows k) ≡ false }
