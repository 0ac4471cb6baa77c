use Rattle.std.proofs.Common.{◌≡◌, ℕ, ◌<◌, true}
use Rattle.rpm_pkgdb.proofs.Vocabulary.{is_used, slot_at}
use Rattle.rpm_pkgdb.proofs.plan.first_free.Given as goal

abbrev pub invariant-loop-k : goal.invariant-loop-k
invariant-loop-k l = (j : ℕ) → j < l.k → is_used (slot_at l.slots j) ≡ true
