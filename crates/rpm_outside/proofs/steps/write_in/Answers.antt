use Rattle.std.proofs.Common.{◌+◌, ◌++◌, take, drop, length, ◌∙◌, ap}
use Rattle.rpm_outside.proofs.Vocabulary.{Units}
use Rattle.rpm_outside.proofs.Units.{put_in_place, write_back}
use Rattle.rpm_outside.proofs.steps.write_in.Goals as goal

pub returns-clause-ok : goal.returns-clause-ok
returns-clause-ok c =
    let at = c.args.at in
    let units = c.args.units.now in
    let longer = c.lengthen.new.file in
    write_back longer.len longer.items c.overwrite.new.file (c.overwrite.auto.file ∙ ap length c.deref_mut.ensures.value) longer.ok.0
    ∙ c.overwrite.ensures
    ∙ ap (λ (us : Units). take at us ++ units ++ drop (at + length units) us) c.deref_mut.ensures.value
    ∙ put_in_place at units c.args.file.now.items longer.items c.in_ok-lengthen.ensures.ok
