use Rattle.std.proofs.Common.{◌≡◌, ℕ, ◌+◌, ◌<◌, ◌≤◌}
use Rattle.std.specs.Prelude.{unwrap_or}
use Rattle.rpm_group.proofs.Vocabulary.{in_marked, unit_in}
use Rattle.rpm_group.proofs.page.lay_some.Given as goal

abbrev pub invariant-loop-k : goal.invariant-loop-k
invariant-loop-k l = record {
  done : (j : ℕ) → j < l.k → unit_in l.into j ≡ unwrap_or (in_marked l.marks l.bytes (l.at + j)) (unit_in l.initial.into j);
  rest : (j : ℕ) → l.k ≤ j → unit_in l.into j ≡ unit_in l.initial.into j;
}
