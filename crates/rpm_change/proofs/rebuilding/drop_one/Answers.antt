use Rattle.std.proofs.Common.{◌≡◌, refl, Err}
use Rattle.rpm_change.proofs.Vocabulary.{Bad, Good, dropped_course, EndedOnOut, idle, out_gone, out_joins, out_none, stopped_went, went_as, went_behind}
use Rattle.rpm_effects.specs.declared.tally.Halt.TheVariants as halt
use Rattle.rpm_change.proofs.Dropped.{gathering_looked, left_looked, looked_went}
use Rattle.rpm_change.proofs.laws.Owing.{owing_then}
use Rattle.rpm_change.proofs.rebuilding.drop_one.Goals as goal

pub drop_bad-requires-clause-gathering : goal.drop_bad-requires-clause-gathering
drop_bad-requires-clause-gathering g c = gathering_looked g.D.Disk c.requires.gathering c.get_in.ensures.reads.looks

pub returns-in-Ok-clause-went : goal.returns-in-Ok-clause-went
returns-in-Ok-clause-went g c = λ p.
    let n = c.args.number in
    let said = c.in-Ok.ensures in
    went_as g.D.Disk {E = EndedOnOut g.O.Sink c.args.out.now c.args.out.now} idle (dropped_course n p) (λ both. both)
    (λ both. let same : p ≡ Good c.in-Ok.good.items = (let there = said.told both.0 in let is = both.1 in cc) in rw same refl) (λ s t e. e)
    (looked_went g.D.Disk c.requires.gathering said.reads.looks said.reads.cause.later (λ both. both.0) (out_none g.O.Sink c.args.out.now))

pub returns-in-Err-Bad-clause-went : goal.returns-in-Err-Bad-clause-went
returns-in-Err-Bad-clause-went g c = λ p.
    let n = c.args.number in
    let said = rw c.in-Err-Bad.field-0-is at c.in-Err-Bad.ensures in
    let look = c.get_in.ensures.reads in
    went_as g.D.Disk (dropped_course n Bad) (dropped_course n p) (λ both. both.0)
    (λ both. let same : p ≡ Bad = (let there = said.told both.0 in let is = both.1 in cc) in rw same refl) (λ s t e. e)
    (went_behind g.D.Disk g.met.D.Disk.follows_trans (out_joins g.O.Sink c.args.out.now c.args.out.now c.drop_bad.new.out)
    (owing_then g.D.Disk) (λ owing told rows. owing.owes told rows) (λ owing. owing.stays) (dropped_course n Bad) c.drop_bad.result
    (looked_went g.D.Disk c.requires.gathering look.looks look.cause.later (λ told. told) (out_none g.O.Sink c.args.out.now)) c.drop_bad.ensures.went)

pub returns-in-Err-DiskFault-clause-went : goal.returns-in-Err-DiskFault-clause-went
returns-in-Err-DiskFault-clause-went g c = λ p.
    let said = rw c.in-Err-DiskFault.field-0-is at c.in-Err-DiskFault.ensures in
    stopped_went g.D.Disk (dropped_course c.args.number p) halt.DiskFault (λ s t. out_gone g.O.Sink c.args.out.now (dropped_course c.args.number p))
    (λ i. refl) tt
    (left_looked g.D.Disk c.requires.gathering c.get_in.ensures.reads.looks (Err halt.DiskFault)
    (record { later = c.get_in.ensures.reads.cause.later; rose = λ is. said.reads.cause.rose refl }))

pub returns-in-Err-NoMemory-clause-went : goal.returns-in-Err-NoMemory-clause-went
returns-in-Err-NoMemory-clause-went g c = λ p.
    stopped_went g.D.Disk (dropped_course c.args.number p) halt.NoMemory (λ s t. out_gone g.O.Sink c.args.out.now (dropped_course c.args.number p))
    (λ i. refl) tt
    (left_looked g.D.Disk c.requires.gathering c.get_in.ensures.reads.looks (Err halt.NoMemory)
    (record { later = c.get_in.ensures.reads.cause.later; rose = λ is. absurd cc }))
