-- Numbers that rise don't fall.
use Rattle.std.proofs.Common.{◌≡◌, ◌≤◌, ◌<◌, ℕ, List, inl, inr, length, get_or, ap, arith}
use Rattle.std.proofs.lemmas.Bool.{cases_lt}
use Rattle.rpm_graph.proofs.Vocabulary.{IsNumberRising}

pub le_of_rising : (xs : List ℕ) → IsNumberRising xs → (i j : ℕ) → i ≤ j → j < length xs → get_or xs i 0 ≤ get_or xs j 0
le_of_rising xs rises i j le lt = elim (cases_lt i j) [
  | inl less ↦ omega (arith, rises i j less lt)
  | inr same ↦ let is : i ≡ j = omega arith in omega (arith, ap (λ k. get_or xs k 0) is)
]
