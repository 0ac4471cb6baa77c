use Rattle.rpm_report.proofs.Vocabulary.{Anywhere, Files, inner, packages, packages_in, store_of, unmet, Unmet, unmet_part, unmet_step}
use Rattle.rpm_select.specs.Frame.{HasKeptRows}
use Rattle.std.proofs.Common.{◌≡◌, ◌==◌, Bool, true, not, List, [], map, length, refl, sym, ap, ◌∙◌}
use Rattle.std.specs.Prelude.{IsTrue}
use Rattle.std.proofs.lemmas.Result.{err_from_is_err_and}
use Rattle.rpm_print.proofs.laws.Askable.{asked_still}
use Rattle.rpm_report.proofs.Behind.{behind_first, behind_stop, behind_told, question_broken, question_read}
use Rattle.rpm_report.proofs.laws.Checked.{part_unbroken, reached_unbroken}
use Rattle.rpm_print.proofs.laws.Reached.{rows_at}
use Rattle.rpm_report.proofs.SoFar.{glances, peeks_more}
use Rattle.rpm_report.proofs.unsatisfied.report_unmet.Given.{Over}
use Rattle.rpm_report.proofs.unsatisfied.report_unmet.Goals.{After-put_each_unmet}
use Rattle.rpm_report.proofs.unsatisfied.report_unmet.Goals as goal

-- what was found is what no package meets of those at the start
module _ (g : Over) (c : After-put_each_unmet g) (told : IsTrue g.D.Disk.tells) (rows : HasKeptRows g.D.Disk c.args.disk.now c.args.db.now) where
  first : g.D.Disk.files c.tell_each_bad.new.disk ≡ g.D.Disk.files c.args.disk.now
  first = (c.in_ok-bad.ensures.tells.looks.untouched told).same

  found : c.as_slice.result.now ≡ unmet (packages_in g.D.Disk c.args.disk.now c.args.db.now)
  found = c.as_slice.ensures
      ∙ c.in-Ok.ensures.told told (rows_at c.args.db.now (g.D.Disk.files c.tell_each_bad.new.disk) (g.D.Disk.files c.args.disk.now) first rows)
      ∙ ap (λ (f : Files). unmet (packages f.pkg (store_of c.args.db.now))) first

  -- and so are their lines
  lines : map (unmet_step (packages_in g.D.Disk c.unmet.new.disk c.args.db.now)) c.as_slice.result.now
      ≡ (unmet_part (packages_in g.D.Disk c.args.disk.now c.args.db.now)).steps
  lines = ap (λ (f : Files). map (unmet_step (packages f.pkg (store_of c.args.db.now))) c.as_slice.result.now)
      ((c.in-Ok.ensures.asks.looks.untouched told).same ∙ first)
      ∙ ap (map (unmet_step (packages_in g.D.Disk c.args.disk.now c.args.db.now))) found

pub unmet-requires : goal.unmet-requires
unmet-requires g c = record { asked = asked_still g.D.Disk _ _ _ c.in_ok-bad.ensures.tells.looks.untouched c.requires.asked }

pub returns-in_err-bad-clause-went : goal.returns-in_err-bad-clause-went
returns-in_err-bad-clause-went g c = λ told rows.
    let p = err_from_is_err_and c.from_residual.result c.from_residual.ensures.1 in
    rw (p.1, p.2) (behind_first (unmet_part (packages_in g.D.Disk c.args.disk.now c.args.db.now))
    (c.in_err-bad.ensures.went told _ _))

pub returns-in_err-bad-clause-broken : goal.returns-in_err-bad-clause-broken
returns-in_err-bad-clause-broken g c = λ told.
    let p = err_from_is_err_and c.from_residual.result c.from_residual.ensures.1 in
    rw (p.1, p.2) (part_unbroken (g.D.Disk.files c.args.disk.now).idx (c.in_err-bad.ensures.went told true []))

pub returns-in-Err-clause-went : goal.returns-in-Err-clause-went
returns-in-Err-clause-went g c = λ told rows.
    let second = unmet_part (packages_in g.D.Disk c.args.disk.now c.args.db.now) in
    rw c.halt_of_check.ensures.value (behind_stop second (c.in_ok-bad.ensures.went told _ _) Bool refl
    (question_read g.D.Disk c.args.db.now (c.in_ok-bad.ensures.tells.looks.untouched told).same c.in-Err.ensures.asks told rows
    second.steps g.O.Sink.tells g.E.Sink.tells (g.O.Sink.taken (inner c.args.out.now)) (g.E.Sink.taken (inner c.tell_each_bad.new.err))))

pub returns-in-Err-clause-broken : goal.returns-in-Err-clause-broken
returns-in-Err-clause-broken g c = λ told.
    rw c.halt_of_check.ensures.value (question_broken g.D.Disk c.args.db.now (c.in_ok-bad.ensures.tells.looks.untouched told).same
    c.in-Err.ensures.asks told)

pub returns-in-Err-clause-looks : goal.returns-in-Err-clause-looks
returns-in-Err-clause-looks g c =
    peeks_more g.D.Disk g.met.D.Disk.follows_trans c.in_ok-bad.ensures.tells.looks (glances g.D.Disk c.in-Err.ensures.asks.looks)

pub returns-in_err-put_each_unmet-clause-went : goal.returns-in_err-put_each_unmet-clause-went
returns-in_err-put_each_unmet-clause-went g c = λ told rows.
    let second = unmet_part (packages_in g.D.Disk c.args.disk.now c.args.db.now) in
    let p = err_from_is_err_and c.from_residual-in_err-put_each_unmet.result c.from_residual-in_err-put_each_unmet.ensures.1 in
    rw (p.1, p.2) (behind_stop second (c.in_ok-bad.ensures.went told _ _) (Unit {0})
    (lines g (goal.at.returns-in_err-put_each_unmet-clause-went g c).After-put_each_unmet told rows)
    (c.in_err-put_each_unmet.ensures.went told g.E.Sink.tells (g.E.Sink.taken (inner c.tell_each_bad.new.err))))

pub returns-in_err-put_each_unmet-clause-broken : goal.returns-in_err-put_each_unmet-clause-broken
returns-in_err-put_each_unmet-clause-broken g c = λ told.
    let p = err_from_is_err_and c.from_residual-in_err-put_each_unmet.result c.from_residual-in_err-put_each_unmet.ensures.1 in
    rw (p.1, p.2) (reached_unbroken (Unit {0}) _ (g.D.Disk.files c.args.disk.now).idx c.in_err-put_each_unmet.field-0.0 _ _ Anywhere
    (c.in_err-put_each_unmet.ensures.went told true []))

pub returns-in_err-put_each_unmet-clause-looks : goal.returns-in_err-put_each_unmet-clause-looks
returns-in_err-put_each_unmet-clause-looks g c =
    let d = g.D.Disk in
    let goes = g.met.D.Disk.follows_trans in
    peeks_more d goes c.in_ok-bad.ensures.tells.looks (peeks_more d goes (glances d c.in-Ok.ensures.asks.looks) c.in_err-put_each_unmet.ensures.tells.looks)

pub returns-clause-went : goal.returns-clause-went
returns-clause-went g c = λ told rows.
    let second = unmet_part (packages_in g.D.Disk c.args.disk.now c.args.db.now) in
    let then = (goal.at.returns-clause-went g c).After-put_each_unmet in
    behind_told second (c.in_ok-bad.ensures.went told _ _)
    (ap (λ (us : List Unmet). not (length us == 0)) (sym (found g then told rows) ∙ c.as_slice.ensures ∙ sym c.as_slice-2.ensures)
    ∙ ap not (sym c.is_empty.ensures))
    (rw (lines g then told rows) at (c.in_ok-put_each_unmet.ensures.went told g.E.Sink.tells (g.E.Sink.taken (inner c.tell_each_bad.new.err))))

pub returns-clause-looks : goal.returns-clause-looks
returns-clause-looks g c =
    let d = g.D.Disk in
    let goes = g.met.D.Disk.follows_trans in
    peeks_more d goes c.in_ok-bad.ensures.tells.looks (peeks_more d goes (glances d c.in-Ok.ensures.asks.looks) c.in_ok-put_each_unmet.ensures.tells.looks)
