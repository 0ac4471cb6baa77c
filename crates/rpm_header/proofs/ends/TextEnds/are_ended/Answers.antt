use Rattle.std.proofs.Common.{List, ℕ, drop, sym, ap, ◌∙◌, arith}
use Rattle.rpm_header.proofs.Vocabulary.{are_ended}
use Rattle.rpm_header.proofs.Counted.{ended_enough, zeros-earlier}
use Rattle.rpm_header.proofs.ends.TextEnds.are_ended.Goals as goal

pub returns-then-offset-self-clause-value : goal.returns-then-offset-self-clause-value
returns-then-offset-self-clause-value c =
    let some = c.self.invariant.0 c.args.offset c.if-offset-self.true in
    sym (ap (λ (s : List ℕ). are_ended c.args.count (drop c.args.offset s)) (sym c.self.view_is)
    ∙ ended_enough c.args.count (drop c.args.offset c.self.inside.section.now) (omega (arith, some, c.if-count-eq1.true)))

pub returns-then-offset-self-2-clause-value : goal.returns-then-offset-self-2-clause-value
returns-then-offset-self-2-clause-value c =
    let bytes = c.self.inside.section.now in
    sym (ap (λ (s : List ℕ). are_ended c.args.count (drop c.args.offset s)) (sym c.self.view_is)
    ∙ ended_enough c.args.count (drop c.args.offset bytes)
    (omega (arith, c.self.invariant.1, zeros-earlier c.args.offset c.self.inside.tail bytes (omega arith))))
