use Rattle.std.proofs.Common.{rules, ◌≡◌, None, Some, sym, append_assoc}
use Rattle.std.specs.Prelude.{slice_get}
use Rattle.std.proofs.lemmas.List.{append-nil}
use Rattle.std.proofs.lemmas.Result.{IfOk-equal}
use Rattle.rpm_report.proofs.Vocabulary.{needed_in, requirements, unmet_line}
use Rattle.rpm_report.proofs.unsatisfied.push_unmet.Goals as goal

pub returns-in-None-clause-text : goal.returns-in-None-clause-text
returns-in-None-clause-text c =
    let none : None ≡ slice_get (requirements c.args.view.now) c.args.place = c.in-None.ensures.value in
    rw (← none) (sym (append-nil c.args.text.now.items))

pub returns-in_ok-push_range-in-Some-clause-text : goal.returns-in_ok-push_range-in-Some-clause-text
unfolding unmet_line
returns-in_ok-push_range-in-Some-clause-text c =
    let some : Some (needed_in c.in-Some.needed) ≡ slice_get (requirements c.args.view.now) c.args.place = c.in-Some.ensures.value in
    rw (← some) (search (rules, IfOk-equal, append_assoc))
