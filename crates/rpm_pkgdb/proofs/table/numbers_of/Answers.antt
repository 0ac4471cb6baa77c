use Rattle.std.proofs.Common.{[]}
use Rattle.rpm_pkgdb.proofs.MeetingLaws.{meeting_none}
use Rattle.rpm_pkgdb.proofs.table.numbers_of.Goals as goal

pub returns-in-Some-clause-sound : goal.returns-in-Some-clause-sound
returns-in-Some-clause-sound c =
    meeting_none [] c.args.slots.now (rw c.in-Some.is at c.in_ok-numbers.ensures.apart) c.requires.right.bounded
