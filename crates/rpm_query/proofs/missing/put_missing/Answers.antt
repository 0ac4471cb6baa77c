use Rattle.rpm_query.proofs.Vocabulary.{whole_step}
use Rattle.rpm_query.proofs.missing.put_missing.Goals as goal

pub returns-clause-part : goal.returns-clause-part
returns-clause-part g c = λ j. c.put_out.ensures.part (whole_step j)
