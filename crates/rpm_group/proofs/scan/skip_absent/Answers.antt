use Rattle.std.proofs.Common.{inl, inr, ◌*◌, ap, sym, ◌∙◌, arith}
use Rattle.std.specs.Prelude.{is_some, not}
use Rattle.std.proofs.lemmas.Bool.{cases_lt}
use Rattle.rpm_group.proofs.scan.skip_absent.Goals as goal

pub loop-q-init : goal.loop-q-init
loop-q-init c = record {
  small = omega (arith, c.requires.ordered, c.requires.small);
  between = λ i low high. absurd (omega (arith, low, high));
}

pub loop-q-preserved : goal.loop-q-preserved
loop-q-preserved c = record {
  small = omega (arith, c.requires.small, c.loop-q-test.true, c.absent-gap.ensures.most);
  between = λ i low high. elim (cases_lt i (256 * c.loop-q.q)) [
    | inl earlier ↦ c.loop-q.invariant.between i low earlier
    | inr later ↦ ap is_some (c.absent-gap.ensures.none i later high)
  ];
}

pub returns-then-gap-eq0-clause-between : goal.returns-then-gap-eq0-clause-between
returns-then-gap-eq0-clause-between c = λ i low high.
    c.loop-q.invariant.between i low (omega (arith, low, high, c.max.ensures)) ∙ ap not (sym c.if-not-held.false)

pub returns-clause-between : goal.returns-clause-between
returns-clause-between c = λ i low high. c.loop-q.invariant.between i low (omega (arith, high, c.loop-q-test.false)) ∙ ap not (sym c.if-not-held.false)
