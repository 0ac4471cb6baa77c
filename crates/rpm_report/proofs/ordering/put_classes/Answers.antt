use Rattle.rpm_report.proofs.Vocabulary.{class_steps, Files, flat_map, packages, store_of}
use Rattle.std.proofs.Common.{◌≡◌, ◌+◌, ◌++◌, drop, ap, arith}
use Rattle.std.proofs.lemmas.List.{drop_all}
use Rattle.std.proofs.lemmas.Result.{err_from_is_err_and}
use Rattle.rpm_print.proofs.laws.Askable.{asked_still}
use Rattle.rpm_report.proofs.Going.{going_none, going_more, going_stop, going_end}
use Rattle.rpm_report.proofs.Telling.{classes_at}
use Rattle.rpm_report.proofs.ordering.put_classes.Given.{Over}
use Rattle.rpm_report.proofs.ordering.put_classes.Goals.{After-put_class}
use Rattle.rpm_report.proofs.ordering.put_classes.Goals as goal

pub put_class-requires : goal.put_class-requires
put_class-requires g c = record { asked = asked_still g.D.Disk _ _ _ c.loop-k.invariant.far.looks.untouched c.requires.asked }

pub loop-k-init : goal.loop-k-init
loop-k-init g c =
    going_none g.D.Disk g.O.Sink g.met.D.Disk.follows_refl g.met.O.Sink.follows_refl
    (λ (f : Files). flat_map (class_steps (packages f.pkg (store_of c.args.db.now))) c.args.list.now) c.args.disk.now c.args.out.now

-- the class at a place, and those after it
class_here : (g : Over) (c : After-put_class g) (f : Files) → let steps = class_steps (packages f.pkg (store_of c.args.db.now)) in
    flat_map steps (drop c.loop-k.k c.args.list.now) ≡ steps c.class.result.now ++ flat_map steps (drop (c.loop-k.k + 1) c.args.list.now)
class_here g c f =
    rw c.class.ensures (classes_at (class_steps (packages f.pkg (store_of c.args.db.now))) c.args.list.now c.loop-k.k
    (omega (arith, c.loop-k-test.true, c.classes-k-end.ensures)))

pub loop-k-preserved : goal.loop-k-preserved
loop-k-preserved g c =
    let steps = λ (f : Files). class_steps (packages f.pkg (store_of c.args.db.now)) in
    going_more g.D.Disk g.O.Sink g.met.D.Disk.follows_trans g.met.O.Sink.follows_trans (λ (f : Files). steps f c.class.result.now)
    (λ (f : Files). flat_map (steps f) (drop (c.loop-k.k + 1) c.args.list.now)) (class_here g (goal.at.loop-k-preserved g c).After-put_class)
    c.loop-k.invariant c.in_ok-put_class.ensures.tells c.in_ok-put_class.ensures.went

pub returns-in_err-put_class : goal.returns-in_err-put_class
returns-in_err-put_class g c =
    let steps = λ (f : Files). class_steps (packages f.pkg (store_of c.args.db.now)) in
    let s = going_stop g.D.Disk g.O.Sink g.met.D.Disk.follows_trans g.met.O.Sink.follows_trans (λ (f : Files). steps f c.class.result.now)
    (λ (f : Files). flat_map (steps f) (drop (c.loop-k.k + 1) c.args.list.now)) (class_here g (goal.at.returns-in_err-put_class g c).After-put_class)
    c.loop-k.invariant (Unit {0}) c.in_err-put_class.ensures.tells c.in_err-put_class.ensures.went in
    let p = err_from_is_err_and c.from_residual.result c.from_residual.ensures.1 in
    rw (p.1, p.2) (record { went = s.0; tells = s.1 })

pub returns : goal.returns
returns g c =
    let s = going_end g.D.Disk g.O.Sink (λ (f : Files). ap (flat_map (class_steps (packages f.pkg (store_of c.args.db.now))))
    (drop_all c.loop-k.k c.args.list.now (omega (arith, c.loop-k-test.false, c.classes-k-end.ensures)))) c.loop-k.invariant {T = Unit {0}} {t = tt} in
    record { went = s.0; tells = s.1 }
