use Rattle.rpm_query.proofs.Vocabulary.{inner, missing_part}
use Rattle.std.proofs.Common.{refl}
use Rattle.rpm_effects.proofs.laws.Reaching.{through_none}
use Rattle.rpm_query.proofs.missing.put_missing_part.Goals as goal

pub returns-in-Some-clause-part : goal.returns-in-Some-clause-part
returns-in-Some-clause-part g c = λ j.
    rw (c.in-Some.ensures.some j c.args.text.now) (c.put_missing.ensures.part j g.E.Sink.tells (g.E.Sink.taken (inner c.args.err.now)))

pub returns-in-Number-clause-part : goal.returns-in-Number-clause-part
unfolding missing_part
returns-in-Number-clause-part g c = λ j. rw c.in-Number.is (c.put_no_record.ensures.part j g.O.Sink.tells (g.O.Sink.taken (inner c.args.out.now)))

pub returns-in_default-clause-part : goal.returns-in_default-clause-part
returns-in_default-clause-part g c = λ j.
    rw (c.in-None.ensures.none c.in_default.not-Number j c.args.text.now)
    (record { steps = through_none {ot = g.O.Sink.tells} {et = g.E.Sink.tells} _ _; fails = refl })
