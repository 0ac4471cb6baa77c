use Rattle.rpm_tags.proofs.Vocabulary.{table}
use Rattle.rpm_tags.proofs.NamedAgain.{again}
use Rattle.rpm_tags.proofs.tag.name_of.Goals as goal

-- the rows of the code are those of the table
pub returns-clause-value : goal.returns-clause-value
unfolding table
returns-clause-value c = c.name_in.ensures

pub returns-clause-again : goal.returns-clause-again
returns-clause-again c = again c.name_in.result c.args.tag (returns-clause-value c)
