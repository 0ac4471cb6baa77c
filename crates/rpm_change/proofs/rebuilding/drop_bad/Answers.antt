use Rattle.std.proofs.Common.{[], ◌∷◌, Err, refl, ◌∙◌}
use Rattle.rpm_change.proofs.Vocabulary.{Bad, bearer, dropped_course, dropped_line, Erase, err_is, none_by, out_gone, stopped_went, told_all, told_none, told_part}
use Rattle.rpm_change.proofs.laws.Owing.{owing_none}
use Rattle.rpm_effects.specs.declared.tally.Halt.TheVariants as halt
use Rattle.rpm_change.proofs.rebuilding.drop_bad.Goals as goal

pub returns-in-Ok-clause-went : goal.returns-in-Ok-clause-went
returns-in-Ok-clause-went g c =
    let n = c.args.number in
    told_all g.D.Disk g.O.Sink (Erase n ∷ []) (bearer 0 n) (dropped_line n) c.in_ok-tally.ensures.went c.args.out.now c.put_and_flush.new.sink
    (λ told. rw (c.clear.ensures.inner, c.deref.ensures.value ∙ c.in_ok-line.ensures) at c.in-Ok.ensures.writes.ok)

pub returns-clause-went : goal.returns-clause-went
returns-clause-went g c =
    let n = c.args.number in
    told_part g.D.Disk g.O.Sink (Erase n ∷ []) (bearer 0 n) (dropped_line n) c.in_ok-tally.ensures.went c.args.out.now c.put_and_flush.new.sink
    (λ told. rw (c.clear.ensures.inner, c.deref.ensures.value ∙ c.in_ok-line.ensures) at c.in-Err.ensures.writes.err)

pub returns-in_err-tally-clause-went : goal.returns-in_err-tally-clause-went
returns-in_err-tally-clause-went g c =
    let n = c.args.number in
    let said = c.in_err-tally.ensures in
    rw (err_is c.from_residual-in_err-tally.result c.from_residual-in_err-tally.ensures) (told_none g.D.Disk g.O.Sink (Erase n ∷ []) (bearer 0 n)
    (dropped_line n) c.in_err-tally.field-0.0 said.went said.kinds.1 said.kinds.2 c.args.out.now)

pub returns-in_err-line-clause-went : goal.returns-in_err-line-clause-went
returns-in_err-line-clause-went g c =
    let course = dropped_course c.args.number Bad in
    rw (err_is c.from_residual.result c.from_residual.ensures)
    (stopped_went g.D.Disk course halt.NoMemory (λ s t. out_gone g.O.Sink c.args.out.now course) (λ i. refl) tt
    (none_by g.D.Disk g.met.D.Disk.follows_refl _ (owing_none g.D.Disk c.requires.gathering) c.args.disk.now c.args.db.now
    c.requires.gathering.indexed (Err halt.NoMemory) (λ is. absurd cc)))
