use Rattle.std.proofs.Common.{ℕ, List, length, is_none, Err, ap, sym, subst, arith}
use Rattle.std.proofs.lemmas.Bool.Decides.{nat_tests}
use Rattle.rpm_db.proofs.Vocabulary.{IsFullFor, IsStoreFull, PackageChange}
use Rattle.rpm_db.proofs.planning.plan_edit.Goals as goal

pub returns-in-Err-StoreFull-clause-later : goal.returns-in-Err-StoreFull-clause-later
returns-in-Err-StoreFull-clause-later c = (
  λ spent. grind (arith, nat_tests),
  subst (λ (r : PackageChange). IsFullFor r c.args.store.now) (sym c.in-Put.is)
      (subst (λ (bs : List ℕ). IsStoreFull c.args.store.now (is_none c.in-Put.n) (length bs)) c.blob.ensures.value
      (c.in-Err-StoreFull.ensures.full (ap Err c.in-Err-StoreFull.field-0-is)).full),
)

pub returns-in-Ok-clause-later : goal.returns-in-Ok-clause-later
returns-in-Ok-clause-later c = (
  λ spent. grind (arith, nat_tests),
  λ full. c.in-Ok.ensures.planned.fits (subst (λ (bs : List ℕ). IsStoreFull c.args.store.now (is_none c.in-Put.n) (length bs)) (sym c.blob.ensures.value)
      (subst (λ (r : PackageChange). IsFullFor r c.args.store.now) c.in-Put.is full)),
)
