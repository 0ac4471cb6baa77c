use Rattle.rpm_print.proofs.Vocabulary.{closing}
use Rattle.rpm_print.proofs.closing.put_line.Goals as goal

pub returns-in-BadLog : goal.returns-in-BadLog
unfolding closing
returns-in-BadLog g c = rw c.in-BadLog.is c.put_number.ensures

pub returns-in-BadIndex : goal.returns-in-BadIndex
unfolding closing
returns-in-BadIndex g c = rw c.in-BadIndex.is c.put_number-in-BadIndex.ensures

pub returns-in-NotEmpty : goal.returns-in-NotEmpty
unfolding closing
returns-in-NotEmpty g c = rw c.in-NotEmpty.is c.put_number-in-NotEmpty.ensures

pub returns-in-BadFormat : goal.returns-in-BadFormat
unfolding closing
returns-in-BadFormat g c = rw c.in-BadFormat.is c.put_fault.ensures

pub returns-in-Damaged : goal.returns-in-Damaged
unfolding closing
returns-in-Damaged g c = rw c.in-Damaged.is c.put_damage.ensures
