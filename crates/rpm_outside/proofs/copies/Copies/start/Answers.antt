use Rattle.std.proofs.Common.{inr, refl}
use Rattle.rpm_outside.proofs.copies.Copies.start.Goals as goal

pub returns-in_ok-copy_of-in-Some : goal.returns-in_ok-copy_of-in-Some
returns-in_ok-copy_of-in-Some c = inr (record {
  copy = c.in-Some.copy.now;
  has = c.in-Some.ensures;
  at_is = refl;
  files_are = c.in_ok-copy_of-in-Some.ensures;
})
