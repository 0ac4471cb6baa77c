use Rattle.std.proofs.Common.{◌≡◌, ℕ, List, length, Option, Some, None, sym, ap, ◌∙◌}
use Rattle.rpm_check.proofs.Vocabulary.{list_or_empty, REQUIREFLAGS, REQUIRENAME, REQUIREVERSION, texts_in}
use Rattle.rpm_check.proofs.Placing.{length-dependencies}
use Rattle.rpm_check.proofs.lacking.required_count.Goals as goal

pub returns-in-None : goal.returns-in-None
returns-in-None c =
    let is : None ≡ texts_in c.args.view.now REQUIRENAME = c.in-None.ensures in
    ap (λ (o : Option (List (List ℕ))). length (list_or_empty o)) is
    ∙ sym (length-dependencies (record { names = REQUIRENAME; flags = REQUIREFLAGS; versions = REQUIREVERSION }) c.args.view.now)

pub returns-in-Some : goal.returns-in-Some
returns-in-Some c =
    let is : Some c.in-Some.texts ≡ texts_in c.args.view.now REQUIRENAME = c.in-Some.ensures in
    c.count.ensures.value ∙ ap (λ (o : Option (List (List ℕ))). length (list_or_empty o)) is
    ∙ sym (length-dependencies (record { names = REQUIRENAME; flags = REQUIREFLAGS; versions = REQUIREVERSION }) c.args.view.now)
