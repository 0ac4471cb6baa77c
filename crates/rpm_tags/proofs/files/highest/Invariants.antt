use Rattle.std.proofs.Common.{◌≡◌, ℕ, take}
use Rattle.std.specs.Prelude.{nat_lt}
use Rattle.rpm_tags.proofs.Vocabulary.{list_all}
use Rattle.rpm_tags.proofs.files.highest.Given as goal

abbrev pub invariant-loop-i : goal.invariant-loop-i
invariant-loop-i l = (limit : ℕ) → list_all (λ number. nat_lt number limit) (take l.i l.numbers) ≡ nat_lt l.high limit
