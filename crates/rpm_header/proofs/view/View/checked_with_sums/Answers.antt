use Rattle.std.proofs.Common.{◌≡◌, ℕ, ◌<◌, None, sym, arith, refl}
use Rattle.rpm_header.proofs.Vocabulary.{fault_at, header_of}
use Rattle.rpm_header.proofs.Each.{first_some, first_none}
use Rattle.rpm_header.proofs.view.View.checked_with_sums.Goals as goal

pub returns-in-Some : goal.returns-in-Some
unfolding header_of
returns-in-Some c =
    rw (first_some c.args.il (fault_at c.args.il c.args.blob.now) c.loop-i.i c.in-Some.fault c.loop-i-test.true c.loop-i.invariant.earlier
    (sym c.in-Some.ensures.value)) refl

pub returns : goal.returns
unfolding header_of
returns c =
    let none : (k : ℕ) → k < c.args.il → fault_at c.args.il c.args.blob.now k ≡ None = λ k h. c.loop-i.invariant.earlier k (omega arith) in
    rw (first_none c.args.il (fault_at c.args.il c.args.blob.now) none) refl
