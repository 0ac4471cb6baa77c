use Rattle.rpm_report.proofs.Vocabulary.{Anywhere, class_steps, classes_part, Files, flat_map, graph_of, inner, IsOrder, Network, packages, packages_in, store_of}
use Rattle.rpm_select.specs.Frame.{HasKeptRows}
use Rattle.std.proofs.Common.{◌≡◌, true, false, Bool, [], refl, ap, ◌∙◌, subst}
use Rattle.std.specs.Prelude.{IsTrue}
use Rattle.std.proofs.lemmas.Result.{err_from_is_err_and}
use Rattle.rpm_print.proofs.laws.Askable.{asked_still}
use Rattle.rpm_report.proofs.Behind.{behind_first, behind_stop, behind_sound, question_broken, question_read}
use Rattle.rpm_report.proofs.laws.Checked.{part_unbroken, reached_unbroken}
use Rattle.rpm_report.proofs.laws.Reporting.{none_listed, order_listed}
use Rattle.rpm_print.proofs.laws.Reached.{rows_at}
use Rattle.rpm_effects.proofs.laws.Reaching.{not_begun, through_none}
use Rattle.rpm_report.proofs.SoFar.{glances, peeks_more}
use Rattle.rpm_report.proofs.ordering.report_order.Given.{Over}
use Rattle.rpm_report.proofs.ordering.report_order.Goals.{After-put_classes}
use Rattle.rpm_report.proofs.ordering.report_order.Goals as goal

module _ (g : Over) (c : After-put_classes g) (told : IsTrue g.D.Disk.tells) where
  same : g.D.Disk.files c.read_graph.new.disk ≡ g.D.Disk.files c.args.disk.now
  same = (c.in-Ok.ensures.asks.looks.untouched told).same ∙ (c.in_ok-bad.ensures.tells.looks.untouched told).same

  -- the classes are those of the packages at the start, in their order
  listed : HasKeptRows g.D.Disk c.args.disk.now c.args.db.now → IsOrder (graph_of (packages_in g.D.Disk c.args.disk.now c.args.db.now)) c.in_ok-list.list
  listed rows =
      let first = (c.in_ok-bad.ensures.tells.looks.untouched told).same in
      subst (λ (n : Network). IsOrder n c.in_ok-list.list)
      (c.in-Ok.ensures.told told (rows_at c.args.db.now (g.D.Disk.files c.tell_each_bad.new.disk) (g.D.Disk.files c.args.disk.now) first rows)
      ∙ ap (λ (f : Files). graph_of (packages f.pkg (store_of c.args.db.now))) first) c.in_ok-list.ensures.order

pub read_graph-requires : goal.read_graph-requires
read_graph-requires g c = record { asked = asked_still g.D.Disk _ _ _ c.in_ok-bad.ensures.tells.looks.untouched c.requires.asked }

pub returns-in_err-bad-clause-went : goal.returns-in_err-bad-clause-went
returns-in_err-bad-clause-went g c = λ told rows.
    let all = packages_in g.D.Disk c.args.disk.now c.args.db.now in
    let p = err_from_is_err_and c.from_residual.result c.from_residual.ensures.1 in
    rw (p.1, p.2) (
      [],
      none_listed (graph_of all),
      behind_first (classes_part all [])
          (c.in_err-bad.ensures.went told _ _),
    )

pub returns-in_err-bad-clause-broken : goal.returns-in_err-bad-clause-broken
returns-in_err-bad-clause-broken g c = λ told.
    let p = err_from_is_err_and c.from_residual.result c.from_residual.ensures.1 in
    rw (p.1, p.2) (part_unbroken (g.D.Disk.files c.args.disk.now).idx (c.in_err-bad.ensures.went told true []))

pub returns-in-Err-clause-went : goal.returns-in-Err-clause-went
returns-in-Err-clause-went g c = λ told rows.
    let all = packages_in g.D.Disk c.args.disk.now c.args.db.now in
    rw c.halt_of_check.ensures.value (
      [],
      none_listed (graph_of all),
      behind_stop (classes_part all []) (c.in_ok-bad.ensures.went told _ _) Bool refl
          (question_read g.D.Disk c.args.db.now (c.in_ok-bad.ensures.tells.looks.untouched told).same c.in-Err.ensures.asks told rows
          [] g.O.Sink.tells g.E.Sink.tells (g.O.Sink.taken (inner c.args.out.now)) (g.E.Sink.taken (inner c.tell_each_bad.new.err))),
    )

pub returns-in-Err-clause-broken : goal.returns-in-Err-clause-broken
returns-in-Err-clause-broken g c = λ told.
    rw c.halt_of_check.ensures.value (question_broken g.D.Disk c.args.db.now (c.in_ok-bad.ensures.tells.looks.untouched told).same
    c.in-Err.ensures.asks told)

pub returns-in-Err-clause-looks : goal.returns-in-Err-clause-looks
returns-in-Err-clause-looks g c =
    peeks_more g.D.Disk g.met.D.Disk.follows_trans c.in_ok-bad.ensures.tells.looks (glances g.D.Disk c.in-Err.ensures.asks.looks)

pub returns-in_err-list-clause-went : goal.returns-in_err-list-clause-went
returns-in_err-list-clause-went g c = λ told rows.
    let all = packages_in g.D.Disk c.args.disk.now c.args.db.now in
    let p = err_from_is_err_and c.from_residual-in_err-list.result c.from_residual-in_err-list.ensures.1 in
    rw (p.1, p.2) (
      [],
      none_listed (graph_of all),
      behind_stop (classes_part all []) (c.in_ok-bad.ensures.went told _ _) Bool refl
          (not_begun (through_none {ot = g.O.Sink.tells} {et = g.E.Sink.tells} (g.O.Sink.taken (inner c.args.out.now)) _)),
    )

pub returns-in_err-list-clause-looks : goal.returns-in_err-list-clause-looks
returns-in_err-list-clause-looks g c =
    peeks_more g.D.Disk g.met.D.Disk.follows_trans c.in_ok-bad.ensures.tells.looks (glances g.D.Disk c.in-Ok.ensures.asks.looks)

pub returns-in_err-put_classes-clause-went : goal.returns-in_err-put_classes-clause-went
returns-in_err-put_classes-clause-went g c = λ told rows.
    let all = packages_in g.D.Disk c.args.disk.now c.args.db.now in
    let list = c.in_ok-list.list in
    let then = (goal.at.returns-in_err-put_classes-clause-went g c).After-put_classes in
    let p = err_from_is_err_and c.from_residual-in_err-put_classes.result c.from_residual-in_err-put_classes.ensures.1 in
    rw (p.1, p.2) (
      list,
      order_listed (graph_of all) false list (listed g then told rows),
      behind_stop (classes_part all list) (c.in_ok-bad.ensures.went told _ _) (Unit {0})
          (ap (λ (f : Files). flat_map (class_steps (packages f.pkg (store_of c.args.db.now))) list) (same g then told))
          (c.in_err-put_classes.ensures.went told g.E.Sink.tells (g.E.Sink.taken (inner c.tell_each_bad.new.err))),
    )

pub returns-in_err-put_classes-clause-broken : goal.returns-in_err-put_classes-clause-broken
returns-in_err-put_classes-clause-broken g c = λ told.
    let p = err_from_is_err_and c.from_residual-in_err-put_classes.result c.from_residual-in_err-put_classes.ensures.1 in
    rw (p.1, p.2) (reached_unbroken (Unit {0}) _ (g.D.Disk.files c.args.disk.now).idx c.in_err-put_classes.field-0.0 _ _ Anywhere
    (c.in_err-put_classes.ensures.went told true []))

pub returns-in_err-put_classes-clause-looks : goal.returns-in_err-put_classes-clause-looks
returns-in_err-put_classes-clause-looks g c =
    let d = g.D.Disk in
    let goes = g.met.D.Disk.follows_trans in
    peeks_more d goes c.in_ok-bad.ensures.tells.looks (peeks_more d goes (glances d c.in-Ok.ensures.asks.looks) c.in_err-put_classes.ensures.tells.looks)

pub returns-clause-went : goal.returns-clause-went
returns-clause-went g c = λ told rows.
    let all = packages_in g.D.Disk c.args.disk.now c.args.db.now in
    let list = c.in_ok-list.list in
    let then = (goal.at.returns-clause-went g c).After-put_classes in (
      list,
      order_listed (graph_of all) true list (listed g then told rows),
      behind_sound (classes_part all list) (c.in_ok-bad.ensures.went told _ _) refl
          (rw (same g then told) at (c.in_ok-put_classes.ensures.went told g.E.Sink.tells (g.E.Sink.taken (inner c.tell_each_bad.new.err)))),
    )

pub returns-clause-looks : goal.returns-clause-looks
returns-clause-looks g c =
    let d = g.D.Disk in
    let goes = g.met.D.Disk.follows_trans in
    peeks_more d goes c.in_ok-bad.ensures.tells.looks (peeks_more d goes (glances d c.in-Ok.ensures.asks.looks) c.in_ok-put_classes.ensures.tells.looks)
