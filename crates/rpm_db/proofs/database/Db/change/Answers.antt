use Rattle.std.proofs.Common.{false, sym, ◌∙◌, arith}
use Rattle.rpm_db.proofs.Vocabulary.{blobs_asked, change_asked, field_for, number_asked, number_for, old_rows, packages, refused_store}
use Rattle.rpm_db.proofs.Left.{left_done, left_fault, makes_done, makes_fault, ready_inside}
use Rattle.rpm_db.proofs.Refused.{refusal_goes}
use Rattle.rpm_db.proofs.PackageChanges.{number_changed, refused_roomed, state_asked, units_asked}
use Rattle.rpm_db.proofs.Served.{refused_same}
use Rattle.rpm_db.proofs.database.Db.change.Goals as goal

pub change_both-requires-clause-ready : goal.change_both-requires-clause-ready
change_both-requires-clause-ready g c =
    let was = rw (sym c.self.view_is, c.in-Some.is) at c.requires.ready in
    ready_inside g.D.Disk _ _ _ _ (rw c.in-Some.is at c.self.invariant) was.going was.serving

pub change_both-requires-clause-takes : goal.change_both-requires-clause-takes
change_both-requires-clause-takes g c = rw (sym c.self.view_is) at c.requires.takes

pub returns-in-Ok-clause-later : goal.returns-in-Ok-clause-later
returns-in-Ok-clause-later g c = rw (sym c.self.view_is) c.in-Ok.ensures.later

pub returns-in-Err-clause-later : goal.returns-in-Err-clause-later
returns-in-Err-clause-later g c = rw (sym c.self.view_is) c.in-Err.ensures.later

-- ---- what was made, and what is left

pub returns-in-Ok-clause-left : goal.returns-in-Ok-clause-left
returns-in-Ok-clause-left g c =
    rw (sym c.self.view_is, c.in-Some.is) (left_done g.D.Disk _ _ c.self.inside.store _ c.in-Some.index _ c.self.inside.is_stopped false _ _ _ _ _
    c.in-Ok.ensures.done)

pub returns-in-Err-clause-left : goal.returns-in-Err-clause-left
returns-in-Err-clause-left g c =
    let st = c.self.inside.store in
    let after = c.change_both.new.store in
    let e = c.in-Err.ensures in
    let was = rw (sym c.self.view_is, c.in-Some.is) at c.requires.ready in
    let now_is = c.is_stopping-self-inside.ensures in
    let kept = refused_store c.args.request after.spare st in
    rw (sym c.self.view_is, c.in-Some.is) (left_fault g.D.Disk _ _ st after c.in-Some.index c.change_both.new.index c.self.inside.is_stopped
    c.is_stopping-self-inside.result (old_rows (number_asked c.args.request) (packages (g.D.Disk.files c.args.disk.now).pkg st))
    kept _ c.in-Err.fault e.made now_is e.index.bad (λ runs. was.serving) e.refused (refused_roomed c.args.request st after)
    (λ refusal. refused_same kept after c.in-Some.index c.change_both.new.index c.self.inside.is_stopped c.is_stopping-self-inside.result
    (e.refused refusal).store_is (e.refused refusal).index_is (now_is ∙ refusal_goes c.in-Err.fault refusal ∙ sym was.going)))

pub returns-in-Ok-clause-makes : goal.returns-in-Ok-clause-makes
returns-in-Ok-clause-makes g c =
    let st = c.self.inside.store in
    let asked = c.args.request in
    let file = (g.D.Disk.files c.args.disk.now).pkg in
    let e = c.in-Ok.ensures in
    let was = rw (sym c.self.view_is, c.in-Some.is) at c.requires.ready in
    rw (sym c.self.view_is, c.in-Some.is) (makes_done g.D.Disk c.args.disk.now c.change_both.new.disk st c.in-Some.index c.self.inside.is_stopped
    (change_asked asked) (blobs_asked asked file st) (field_for (number_asked asked) st) (rw c.in-Some.is at c.self.invariant) was.going was.serving
    (state_asked file st asked c.requires.own) (g.met.D.Disk.as_read c.args.disk.now) e.crashes c.change_both.new.store c.change_both.new.index _
    tt e.room e.done (omega (arith, units_asked file st asked c.requires.own)) e.index.full (number_for (number_asked asked) st)
    (number_changed file st asked) e.sums)

pub returns-in-Err-clause-makes : goal.returns-in-Err-clause-makes
returns-in-Err-clause-makes g c =
    let st = c.self.inside.store in
    let asked = c.args.request in
    let file = (g.D.Disk.files c.args.disk.now).pkg in
    let e = c.in-Err.ensures in
    let was = rw (sym c.self.view_is, c.in-Some.is) at c.requires.ready in
    rw (sym c.self.view_is, c.in-Some.is) (makes_fault g.D.Disk c.args.disk.now c.change_both.new.disk st c.in-Some.index c.self.inside.is_stopped
    (change_asked asked) (blobs_asked asked file st) (field_for (number_asked asked) st) (rw c.in-Some.is at c.self.invariant) was.going was.serving
    (state_asked file st asked c.requires.own) (g.met.D.Disk.as_read c.args.disk.now) e.crashes _ c.in-Err.fault e.room e.index.full)

pub returns-in-Err-clause-bad : goal.returns-in-Err-clause-bad
returns-in-Err-clause-bad g c = rw (sym c.self.view_is) (λ told. c.in-Err.ensures.index.bad told)
