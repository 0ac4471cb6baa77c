use Rattle.rpm_qfparse.proofs.Vocabulary.{formatter_table, show_in}
use Rattle.rpm_qfparse.proofs.tag.show_of.Goals as goal

-- the rows of the code are those of the table
pub returns : goal.returns
unfolding formatter_table show_in
returns c = c.show_in.ensures
