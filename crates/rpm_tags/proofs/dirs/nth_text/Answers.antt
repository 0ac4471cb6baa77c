use Rattle.std.proofs.Common.{◌≡◌, ◌∙◌, sym, refl, arith}
use Rattle.rpm_tags.proofs.Ahead.{drop_next, at_drop, not_past}
use Rattle.rpm_tags.proofs.dirs.nth_text.Goals as goal

pub unreachable-requires : goal.unreachable-requires
unreachable-requires c = not_past c.args.texts.now c.loop.counter (sym c.loop.invariant ∙ c.in-None.ensures.steps.0) (omega arith)

pub loop-preserved : goal.loop-preserved
loop-preserved c = drop_next c.args.texts.now c.loop.counter _ _ _ refl (sym c.loop.invariant ∙ c.in-Some.ensures.steps)

pub unreachable-requires-in-None-next : goal.unreachable-requires-in-None-next
unreachable-requires-in-None-next c = not_past c.args.texts.now c.loop.counter (sym c.loop.invariant ∙ c.in-None-next.ensures.steps.0) (omega arith)

pub returns-clause-value : goal.returns-clause-value
returns-clause-value c =
    let end : c.args.n ≡ c.loop.counter = omega arith in
    rw end (at_drop c.args.texts.now c.loop.counter _ _ (sym c.loop.invariant ∙ c.in-Some-next.ensures.steps))

pub returns-clause-left : goal.returns-clause-left
returns-clause-left c = drop_next c.args.texts.now c.loop.counter _ _ _ (omega arith) (sym c.loop.invariant ∙ c.in-Some-next.ensures.steps)
