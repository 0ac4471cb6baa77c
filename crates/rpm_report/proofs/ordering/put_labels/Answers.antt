use Rattle.rpm_report.proofs.Vocabulary.{Files, label_step, packages, store_of}
use Rattle.std.proofs.Common.{◌+◌, [], ◌∷◌, map, drop, get_or, ap}
use Rattle.std.proofs.lemmas.Result.{err_from_is_err_and}
use Rattle.std.proofs.lemmas.List.{drop_all}
use Rattle.rpm_print.proofs.laws.Askable.{asked_still}
use Rattle.rpm_report.proofs.Going.{going_none, going_more, going_stop, going_end}
use Rattle.rpm_report.proofs.Telling.{steps_at}
use Rattle.rpm_report.proofs.ordering.put_labels.Goals as goal

pub put_label-requires : goal.put_label-requires
put_label-requires g c = record { asked = asked_still g.D.Disk _ _ _ c.loop-number.invariant.far.looks.untouched c.requires.asked }

pub loop-number-init : goal.loop-number-init
loop-number-init g c =
    going_none g.D.Disk g.O.Sink g.met.D.Disk.follows_refl g.met.O.Sink.follows_refl
    (λ (f : Files). map (label_step (packages f.pkg (store_of c.args.db.now)) c.args.indent.now) c.args.class.now) c.args.disk.now c.args.out.now

pub loop-number-preserved : goal.loop-number-preserved
loop-number-preserved g c =
    let i = c.loop-number.number-index in
    let xs = c.args.class.now in
    let step = λ (f : Files). label_step (packages f.pkg (store_of c.args.db.now)) c.args.indent.now in
    going_more g.D.Disk g.O.Sink g.met.D.Disk.follows_trans g.met.O.Sink.follows_trans (λ (f : Files). step f (get_or xs i 0) ∷ [])
    (λ (f : Files). map (step f) (drop (i + 1) xs)) (λ (f : Files). steps_at (step f) xs i 0 c.loop-number-test.true) c.loop-number.invariant
    c.in_ok-put_label.ensures.tells c.in_ok-put_label.ensures.went

pub returns-in_err-put_label : goal.returns-in_err-put_label
returns-in_err-put_label g c =
    let i = c.loop-number.number-index in
    let xs = c.args.class.now in
    let step = λ (f : Files). label_step (packages f.pkg (store_of c.args.db.now)) c.args.indent.now in
    let s = going_stop g.D.Disk g.O.Sink g.met.D.Disk.follows_trans g.met.O.Sink.follows_trans (λ (f : Files). step f (get_or xs i 0) ∷ [])
    (λ (f : Files). map (step f) (drop (i + 1) xs)) (λ (f : Files). steps_at (step f) xs i 0 c.loop-number-test.true) c.loop-number.invariant
    (Unit {0}) c.in_err-put_label.ensures.tells c.in_err-put_label.ensures.went in
    let p = err_from_is_err_and c.from_residual.result c.from_residual.ensures.1 in
    rw (p.1, p.2) (record { went = s.0; tells = s.1 })

pub returns : goal.returns
returns g c =
    let s = going_end g.D.Disk g.O.Sink (λ (f : Files). ap (map (label_step (packages f.pkg (store_of c.args.db.now)) c.args.indent.now))
    (drop_all c.loop-number.number-index c.args.class.now c.loop-number-test.false)) c.loop-number.invariant {T = Unit {0}} {t = tt} in
    record { went = s.0; tells = s.1 }
