use Rattle.std.proofs.Common.{◌∙◌}
use Rattle.rpm_report.proofs.Vocabulary.{bearer}
use Rattle.rpm_report.proofs.verdicts.put_unsound.Goals as goal

pub returns-clause-part : goal.returns-clause-part
returns-clause-part g c =
    let digits = c.as_bytes-number.ensures.value ∙ c.format.ensures.text in
    rw (← digits) (c.put_out.ensures.part (bearer 0 c.args.number))
