use Rattle.std.proofs.Common.{◌≡◌, ℕ, ◌+◌, ◌-◌, false, get_or, sym, ap, ◌∙◌, arith}
use Rattle.rpm_group.proofs.Marks.{none_so}
use Rattle.rpm_group.proofs.page.next_mark.Goals as goal

pub returns-then-not-contains-clause-between : goal.returns-then-not-contains-clause-between
returns-then-not-contains-clause-between c = λ k low high.
    let from = c.args.from in
    let place : from + (k - from) ≡ k = omega arith in
    ap (λ (i : ℕ). get_or c.args.marks.now i false) (sym place)
    ∙ none_so c.args.marks.now c.args.held from (c.args.end - from) (omega (arith, c.requires.ordered, c.requires.within)) c.if-not-contains.ensures.cases
    (k - from) (omega arith)
