use Rattle.std.proofs.Common.{List, sym, ap, ◌++◌, ◌∙◌, append-nil}
use Rattle.rpm_filecheck.proofs.Vocabulary.{Conflict}
use Rattle.rpm_filecheck.proofs.Alike.{none_on}
use Rattle.rpm_filecheck.proofs.conflict.push_all.Goals as goal

pub returns-then-agrees_with_all : goal.returns-then-agrees_with_all
returns-then-agrees_with_all c =
    let old = c.args.conflicts.now.items in
    let agree = sym c.agrees_with_all.ensures ∙ c.if-agrees_with_all.true in
    sym (append-nil old)
    ∙ ap (λ (more : List Conflict). old ++ more) (sym (none_on c.args.path.now c.args.first.now c.args.others.now agree))
