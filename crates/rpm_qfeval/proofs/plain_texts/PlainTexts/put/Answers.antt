use Rattle.std.proofs.Common.{◌≡◌, ℕ, List, [], drop, Some, None, sym, ◌∙◌, arith, subst}
use Rattle.rpm_qfeval.proofs.Vocabulary.{Writes}
use Rattle.rpm_qfeval.proofs.Ahead.{get_none, text_here}
use Rattle.rpm_qfeval.proofs.Steps.{begins_with}
use Rattle.rpm_qfeval.proofs.plain_texts.PlainTexts.put.Goals as goal

pub overflow_add-self : goal.overflow_add-self
overflow_add-self g c =
    let b = begins_with (g.S.Source.all c.self.inside.all) c.self.inside.place (g.S.Source.bytes c.in-Some.text)
    (g.S.Source.left c.next.new.from) (sym c.self.invariant.behind ∙ c.in-Some.ensures) in
    omega (arith, b.below, c.self.invariant.whole, c.self.invariant.few)

pub invariant_of-self-in-Some : goal.invariant_of-self-in-Some
invariant_of-self-in-Some g c =
    let b = begins_with (g.S.Source.all c.self.inside.all) c.self.inside.place (g.S.Source.bytes c.in-Some.text)
    (g.S.Source.left c.next.new.from) (sym c.self.invariant.behind ∙ c.in-Some.ensures) in
    record { whole = c.self.invariant.whole; few = c.self.invariant.few; behind = b.behind }

pub returns-in-None-clause-puts : goal.returns-in-None-clause-puts
returns-in-None-clause-puts g c =
    let none : drop c.self.inside.place (g.S.Source.all c.self.inside.all) ≡ [] = sym c.self.invariant.behind ∙ c.in-None.ensures.0 in
    subst (λ (x : List ℕ). Writes g.O.Sink c.args.sink.now c.put_all.new.sink x c.put_all.result)
    (text_here (g.S.Source.all c.self.inside.all) c.args.self.now c.self.inside.place c.args.round None c.self.view_is c.if-self-round.false
    (get_none (g.S.Source.all c.self.inside.all) c.self.inside.place none)) c.put_all.ensures

pub returns-in-Some-clause-puts : goal.returns-in-Some-clause-puts
returns-in-Some-clause-puts g c =
    let b = begins_with (g.S.Source.all c.self.inside.all) c.self.inside.place (g.S.Source.bytes c.in-Some.text)
    (g.S.Source.left c.next.new.from) (sym c.self.invariant.behind ∙ c.in-Some.ensures) in
    subst (λ (x : List ℕ). Writes g.O.Sink c.args.sink.now c.put.new.sink x c.put.result)
    (text_here (g.S.Source.all c.self.inside.all) c.args.self.now c.self.inside.place c.args.round (Some (g.S.Source.bytes c.in-Some.text)) c.self.view_is
    c.if-self-round.false b.here)
    c.put.ensures
