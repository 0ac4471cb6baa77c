use Rattle.std.proofs.Common.{inr, refl}
use Rattle.rpm_outside.proofs.copies.Copies.keep.Goals as goal

pub returns-clause-kept : goal.returns-clause-kept
returns-clause-kept c = inr (record {
  copy = record { at = c.args.at; files = c.in-Ok.copy };
  is = c.in-Ok-push.ensures.items;
  moment = refl;
  files_are = c.in-Ok.ensures;
})
