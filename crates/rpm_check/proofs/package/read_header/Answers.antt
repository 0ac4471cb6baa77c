use Rattle.std.proofs.Common.{◌≡◌, Ok, sym, ap, ◌∙◌}
use Rattle.rpm_check.proofs.Vocabulary.{header, header_at}
use Rattle.rpm_check.proofs.Heading.{header_good}
use Rattle.rpm_check.proofs.package.read_header.Goals as goal

pub returns-in-Ok-parse-clause-told : goal.returns-in-Ok-parse-clause-told
returns-in-Ok-parse-clause-told g c = λ told.
    let blob = c.in-Ok.blob.items in
    let view = c.in-Ok-parse.view in
    let is : header blob ≡ Ok view = ap header (sym c.deref.ensures.value) ∙ sym c.in-Ok-parse.ensures.value in
    sym (ap header_at (c.in-Ok.ensures.told told) ∙ header_good blob view is)
