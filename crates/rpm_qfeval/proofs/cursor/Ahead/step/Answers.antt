use Rattle.rpm_qfeval.proofs.Vocabulary.{concat, text_list}
use Rattle.rpm_qfeval.proofs.Ahead.{one_ahead}
use Rattle.rpm_qfeval.proofs.cursor.Ahead.step.Goals as goal

pub returns-in-Stored : goal.returns-in-Stored
returns-in-Stored c = λ all place was.
    let before = rw c.in-Stored.is at was in
    let next = one_ahead (λ x. x.now) (text_list all) c.next-walk.result c.in-Stored.walk.left c.next-walk.new.self place before.behind
    c.next-walk.ensures.steps in
    record { are_texts = was.are_texts; here = next.0; behind = next.1 }

pub returns-in-Joined : goal.returns-in-Joined
returns-in-Joined c = λ all place was.
    let before = rw c.in-Joined.is at was in
    let next = one_ahead (λ p. concat p) (text_list all) c.next-walk-in-Joined.result c.in-Joined.walk.left c.next-walk-in-Joined.new.self place
    before.behind c.next-walk-in-Joined.ensures.steps in
    record { are_texts = was.are_texts; here = next.0; behind = next.1 }
