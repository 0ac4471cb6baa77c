use Rattle.std.proofs.Common.{sym}
use Rattle.rpm_tags.proofs.Beside.{first_is}
use Rattle.rpm_tags.proofs.needed.number_at.Goals as goal

pub returns-in-Some : goal.returns-in-Some
returns-in-Some c = rw c.in-Some.is (sym (first_is c.in-Some.numbers c.args.place c.number.result c.number.ensures))
