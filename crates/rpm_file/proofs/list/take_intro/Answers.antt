use Rattle.std.proofs.Common.{arith}
use Rattle.rpm_file.proofs.Listed.{short_fill, no_fill, whole_fill}
use Rattle.rpm_file.proofs.list.take_intro.Goals as goal

pub returns-then-count-eq0-clause-answers : goal.returns-then-count-eq0-clause-answers
returns-then-count-eq0-clause-answers g c = λ told.
    no_fill (g.S.Shelf.rest c.args.shelf.now) (g.S.Shelf.rest c.fill.new.shelf) c.in-Ok.count c.fill.new.into (c.in-Ok.ensures.fills told)
    c.if-count-eq0.true (omega (arith, c.fill.auto.into))

pub returns-then-count-lt16-clause-answers : goal.returns-then-count-lt16-clause-answers
returns-then-count-lt16-clause-answers g c = λ told.
    short_fill (g.S.Shelf.rest c.args.shelf.now) (g.S.Shelf.rest c.fill.new.shelf) c.in-Ok.count c.fill.new.into (c.in-Ok.ensures.fills told)
    (omega (arith, c.if-count-eq0.false)) c.if-count-lt16.true (omega (arith, c.fill.auto.into))

pub returns-clause-answers : goal.returns-clause-answers
returns-clause-answers g c = λ told.
    whole_fill (g.S.Shelf.rest c.args.shelf.now) (g.S.Shelf.rest c.fill.new.shelf) c.in-Ok.count c.fill.new.into (c.in-Ok.ensures.fills told)
    (omega (arith, c.in-Ok.ensures.within, c.fill.auto.into)) (omega (arith, c.fill.auto.into)) c.if-count-lt16.false
