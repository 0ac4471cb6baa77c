use Rattle.std.proofs.Common.{◌≡◌, ◌⊎◌, ℕ, ◌<◌, ◌≤◌, true, false, get_or}
use Rattle.rpm_group.proofs.page.mark.Given as goal

abbrev pub invariant-loop-k : goal.invariant-loop-k
invariant-loop-k l = record {
  inside : (j : ℕ) → l.from ≤ j → j < l.k → get_or l.marks j false ≡ true;
  outside : (j : ℕ) → (j < l.from) ⊎ (l.k ≤ j) → get_or l.marks j false ≡ get_or l.initial.marks j false;
}
