use Rattle.std.proofs.Common.{◌∙◌, sym, rules}
use Rattle.rpm_tags.proofs.Vocabulary.{list_or_empty}
use Rattle.rpm_tags.proofs.Beside.{next_beside}
use Rattle.rpm_tags.proofs.needed.DependencyIterIterator.next.Goals as goal

pub returns-in-Some-clause-steps : goal.returns-in-Some-clause-steps
returns-in-Some-clause-steps c =
    sym c.self.view_is
    ∙ next_beside (list_or_empty c.self.inside.names) (list_or_empty c.take_text.new.texts) (list_or_empty c.self.inside.flags)
    (list_or_empty c.self.inside.versions)
    (list_or_empty c.take_or_empty-version.new.texts) c.self.inside.place c.number_at-flags.result c.in-Some.name.now c.take_or_empty-version.result.now
    c.in-Some.ensures.value c.take_text.ensures.left c.number_at-flags.ensures c.take_or_empty-version.ensures.value c.take_or_empty-version.ensures.left

pub returns-in-Some-clause-goes : goal.returns-in-Some-clause-goes
returns-in-Some-clause-goes c =
    let steps = returns-in-Some-clause-steps c in
    rw steps (search rules)
