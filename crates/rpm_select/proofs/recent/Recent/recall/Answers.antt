use Rattle.rpm_select.proofs.Recalling.{last_next, longest_next}
use Rattle.rpm_select.proofs.recent.Recent.recall.Goals as goal

pub returns-in-Some-clause-next : goal.returns-in-Some-clause-next
returns-in-Some-clause-next c = last_next c.args.self.now c.args.number c.in-Some.held.now c.in-Some.ensures.same c.in-Some.ensures.number

pub returns-in-None-clause-next : goal.returns-in-None-clause-next
returns-in-None-clause-next c =
    longest_next c.args.self.now c.args.number c.of_number-in-None.result c.of_number-in-None.ensures.same c.of_number-in-None.ensures.number
