use Rattle.std.proofs.Common.{◌≡◌, ℕ, ◌<◌, ◌≤◌, Bool, true, false, refl, arith}
use Rattle.std.specs.Prelude.{IsTrue}
use Rattle.rpm_hindex.proofs.Vocabulary.{contains, is_gt, is_lt, Less, nat_cmp}
use Rattle.std.proofs.lemmas.Bool.Decides.{nat_tests}
use Rattle.rpm_hindex.proofs.spots.last_dropped.Goals as goal

to_less : (a b : ℕ) → a < b → nat_cmp a b ≡ Less
to_less a b e = grind (arith, nat_tests)

not_less : (a b : ℕ) → is_lt (nat_cmp a b) ≡ false → b ≤ a
not_less a b e = grind (arith, nat_tests)

from_zero : (a : ℕ) → is_gt (nat_cmp 0 a) ≡ false
from_zero a = grind (arith, nat_tests)

none : (found : Bool) → (IsTrue found → ⊥) → found ≡ false
none false empty = refl
none true empty = absurd (empty refl)

pub returns-in-Some : goal.returns-in-Some
returns-in-Some c = λ p above below.
    let latest = (c.range.ensures.in_range tt).4 _ _ c.in-Some.ensures.steps in
    none (contains nat_cmp c.args.dropped.now p) (λ found.
    let le : p ≤ c.in-Some.last.now = not_less _ _ (latest p (from_zero p, to_less p c.args.end below) found) in
    absurd (omega (arith, above, le)))
