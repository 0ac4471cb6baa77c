use Rattle.std.proofs.Common.{◌+◌, ◌*◌}
use Rattle.rpm_qfeval.proofs.Vocabulary.{load, weight}
use Rattle.rpm_qfeval.proofs.columns.+naming.Given as goal

abbrev pub decreases-add_asked_by : goal.decreases-add_asked_by
decreases-add_asked_by l = 2 * load l.part.now + 1

abbrev pub decreases-add_all_asked : goal.decreases-add_all_asked
decreases-add_all_asked l = 2 * weight l.parts.now
