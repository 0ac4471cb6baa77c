use Rattle.std.proofs.Common.{◌≡◌, ℕ, ◌<◌, ◌≤◌, false, arith}
use Rattle.rpm_pkgdb.proofs.Vocabulary.{is_gt, is_lt, Less, nat_cmp}
use Rattle.std.proofs.lemmas.Bool.Decides.{nat_tests}
use Rattle.rpm_pkgdb.proofs.table.last_before.Goals as goal

less : (a b : ℕ) → nat_cmp a b ≡ Less → a < b
less a b e = grind (arith, nat_tests)

to_less : (a b : ℕ) → a < b → nat_cmp a b ≡ Less
to_less a b e = grind (arith, nat_tests)

not_less : (a b : ℕ) → is_lt (nat_cmp a b) ≡ false → b ≤ a
not_less a b e = grind (arith, nat_tests)

from_zero : (a : ℕ) → is_gt (nat_cmp 0 a) ≡ false
from_zero a = grind (arith, nat_tests)

pub returns-in-Some : goal.returns-in-Some
returns-in-Some c =
    let here = (c.range.ensures.in_range tt).3 _ _ c.in-Some.ensures.steps in
    let latest = (c.range.ensures.in_range tt).4 _ _ c.in-Some.ensures.steps in
    record {
      from = c.in-Some.field-0-0.now;
      below = less _ _ here.0.1;
      found = here.1;
      latest = λ q below found. not_less _ _ (latest q (from_zero q, to_less q c.args.block below) found);
    }
