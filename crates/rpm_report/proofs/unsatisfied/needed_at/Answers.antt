use Rattle.std.proofs.Common.{◌≡◌, ℕ, ◌+◌, ◌-◌, [], refl, drop, ap, ◌∙◌, arith}
use Rattle.std.specs.Prelude.{slice_get, List}
use Rattle.std.proofs.lemmas.Iterator.Consumers.{nth_from_yields_List, YieldsList-from_first}
use Rattle.std.proofs.lemmas.List.{drop-drop}
use Rattle.rpm_report.proofs.Passing.{skipped, slice_get-drop}
use Rattle.rpm_report.proofs.Vocabulary.{Need, needed_in, requirements}
use Rattle.rpm_report.proofs.unsatisfied.needed_at.Goals as goal

pub returns-clause-value : goal.returns-clause-value
returns-clause-value c =
    let needs = requirements c.args.view.now in
    let left = c.rewind.new.left in
    let none : Need = record { name = []; flags = 0; version = [] } in
    nth_from_yields_List c.nth-needed.result c.nth-needed.new.self _ c.nth-needed.ensures.ran (YieldsList-from_first needed_in (λ s. s) left.needs refl)
    ∙ ap (λ (ns : List Need). slice_get ns (c.args.place - left.passed)) c.rewind.ensures.left
    ∙ slice_get-drop needs none left.passed (c.args.place - left.passed) c.args.place (omega (arith, c.rewind.ensures.reaches))

pub returns-clause-left : goal.returns-clause-left
returns-clause-left c =
    let needs = requirements c.args.view.now in
    let left = c.rewind.new.left in
    let skip = c.args.place - left.passed in
    let far : left.passed + (skip + 1) ≡ c.args.place + 1 = omega (arith, c.rewind.ensures.reaches) in
    skipped needed_in left.needs c.nth-needed.new.self skip c.nth-needed.result c.nth-needed.ensures.ran
    ∙ ap (drop (skip + 1)) c.rewind.ensures.left ∙ drop-drop (skip + 1) left.passed needs ∙ ap (λ (k : ℕ). drop k needs) far
