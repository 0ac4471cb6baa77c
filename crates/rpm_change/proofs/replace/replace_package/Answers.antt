use Rattle.std.proofs.Common.{Some, refl, sym, ◌∙◌}
use Rattle.rpm_change.proofs.Vocabulary.{missing_course, none_is, put_file, ready_line, replacement, state_in, went_as, whole_step}
use Rattle.std.specs.FinMap as finite
use Rattle.rpm_change.proofs.Dropped.{some_is}
use Rattle.rpm_change.proofs.replace.replace_package.Goals as goal

pub returns-then-holds-clause-went : goal.returns-then-holds-clause-went
returns-then-holds-clause-went g c =
    let n = c.args.number in
    let held = some_is _ (sym (c.holds.ensures.told (g.D.Disk.files c.args.disk.now).pkg) ∙ c.if-holds.true) in
    let paths = g.S.Shelf.paths c.args.shelf.now in
    went_as g.D.Disk (put_file (record { number = Some n; moment = c.args.now }) paths 0 c.args.path.now)
    (replacement (finite.get (state_in g.D.Disk c.args.disk.now c.args.db.now).packages n) paths c.args.now n c.args.path.now) (λ both. both)
    (λ both. rw held refl) (λ s t e. e)
    c.put_alone.ensures.went

pub returns-else-holds-clause-went : goal.returns-else-holds-clause-went
returns-else-holds-clause-went g c =
    let n = c.args.number in
    let none = none_is _ (sym (c.holds.ensures.told (g.D.Disk.files c.args.disk.now).pkg) ∙ c.if-holds.false) in
    went_as g.D.Disk (missing_course 0 n)
    (replacement (finite.get (state_in g.D.Disk c.args.disk.now c.args.db.now).packages n) (g.S.Shelf.paths c.args.shelf.now) c.args.now n
    c.args.path.now) (λ both. both)
    (λ both. rw none refl) (λ s t e. e)
    (ready_line g.D.Disk g.met.D.Disk.follows_refl c.requires.ready g.E.Sink c.put_missing.result (whole_step 0) c.put_missing.ensures)
