use Rattle.std.proofs.Common.{◌≡◌, ◌+◌, ◌-◌, length, drop, refl, ap, arith, append-nil, append_assoc, length-append}
use Rattle.std.proofs.lemmas.List.{length-drop}
use Rattle.std.proofs.lemmas.Fmt.{length-decimal-le, decimal_nonempty, decimal_step, decimal_digit}
use Rattle.rpm_tags.proofs.Vocabulary.{decimal}
use Rattle.rpm_tags.proofs.Decimal.{length_step}
use Rattle.rpm_tags.proofs.digits.digits_in.Goals as goal

pub loop-left-init : goal.loop-left-init
loop-left-init c = (length-decimal-le 20 c.args.number (omega arith) (omega arith) (omega arith), omega arith, refl, append-nil _)

pub overflow_sub-start : goal.overflow_sub-start
overflow_sub-start c = omega (arith, length_step c.loop-left.left c.loop-left-test.true c.loop-left.auto.left-fits.fits)

pub loop-left-preserved : goal.loop-left-preserved
loop-left-preserved c =
    let l = c.loop-left in
    let next : l.start - 1 + 1 ≡ l.start = omega (arith, length_step l.left c.loop-left-test.true l.auto.left-fits.fits) in (
      omega (arith, length_step l.left c.loop-left-test.true l.auto.left-fits.fits),
      omega arith,
      c.put_digit.array_long,
      rw (c.put_digit.ensures, next) (rw (decimal_step l.left c.loop-left-test.true l.auto.left-fits.fits, append_assoc) at l.invariant.3),
    )

pub overflow_sub-start-2 : goal.overflow_sub-start-2
overflow_sub-start-2 c = omega (arith, decimal_nonempty c.loop-left.left c.loop-left.auto.left-fits.fits)

pub returns-clause-value : goal.returns-clause-value
returns-clause-value c =
    let l = c.loop-left in
    let next : l.start - 1 + 1 ≡ l.start = omega (arith, decimal_nonempty l.left l.auto.left-fits.fits) in
    rw (c.put_digit-2.ensures, next) (rw (decimal_digit l.left (omega arith)) at l.invariant.3)

pub returns-clause-short : goal.returns-clause-short
returns-clause-short c =
    let l = c.loop-left in
    omega (
      arith,
      decimal_nonempty l.left l.auto.left-fits.fits,
      ap length l.invariant.3,
      length-append (decimal l.left) (drop l.start l.bytes),
      length-drop l.start l.bytes,
      ap length (decimal_digit l.left (omega arith)),
    )
