use Rattle.rpm_report.proofs.Vocabulary.{Files, packages, store_of, unmet_step}
use Rattle.std.proofs.Common.{◌≡◌, ◌<◌, ◌++◌, map, refl, sym, ap, ◌∙◌, arith}
use Rattle.std.proofs.lemmas.Result.{err_from_is_err_and}
use Rattle.std.proofs.lemmas.List.{map-append}
use Rattle.rpm_report.proofs.Going.{going_none, going_more, going_stop, going_end}
use Rattle.rpm_report.proofs.Rowed.{front_none, front_own, front_some}
use Rattle.rpm_print.proofs.laws.Askable.{asked_still}
use Rattle.rpm_report.proofs.unsatisfied.put_each_unmet.Given.{Over}
use Rattle.rpm_report.proofs.unsatisfied.put_each_unmet.Goals.{After-put_row, After-row_len}
use Rattle.rpm_report.proofs.unsatisfied.put_each_unmet.Goals as goal

pub put_row-requires-clause-asked : goal.put_row-requires-clause-asked
put_row-requires-clause-asked g c =
    asked_still g.D.Disk _ _ _ c.loop-first.invariant.far.looks.untouched c.requires.asked

pub put_row-requires-clause-own : goal.put_row-requires-clause-own
put_row-requires-clause-own g c =
    rw (c.split_at.ensures.front, c.row_len.ensures.length) (front_own c.in-Some.first.now.number c.loop-first.left.now)

-- the row has the requirement that stands first
some_in : (g : Over) (c : After-row_len g) → 0 < c.row_len.result
some_in g c = rw c.row_len.ensures.length (front_some c.in-Some.first.now.number c.loop-first.left.now c.in-Some.first.now (sym c.in-Some.ensures.value) refl)

pub put_row-requires-clause-some : goal.put_row-requires-clause-some
put_row-requires-clause-some g c = omega (arith, c.split_at.ensures.front_len, some_in g (goal.at.put_row-requires-clause-some g c).After-row_len)

pub loop-first-smaller : goal.loop-first-smaller
loop-first-smaller g c = omega (arith, c.split_at.ensures.back_len, some_in g (goal.at.loop-first-smaller g c).After-row_len)

pub loop-first-init : goal.loop-first-init
loop-first-init g c =
    going_none g.D.Disk g.O.Sink g.met.D.Disk.follows_refl g.met.O.Sink.follows_refl
    (λ (f : Files). map (unmet_step (packages f.pkg (store_of c.args.db.now))) c.args.list.now) c.args.disk.now c.args.out.now

-- the row at the front, and the rest
rows_are : (g : Over) (c : After-put_row g) (f : Files) → let step = unmet_step (packages f.pkg (store_of c.args.db.now)) in
    map step c.loop-first.left.now ≡ map step c.split_at.result.0.now ++ map step c.split_at.result.1.now
rows_are g c f =
    let step = unmet_step (packages f.pkg (store_of c.args.db.now)) in
    ap (map step) c.split_at.ensures.by_index.0 ∙ map-append step c.split_at.result.0.now c.split_at.result.1.now

pub loop-first-preserved : goal.loop-first-preserved
loop-first-preserved g c =
    let step = λ (f : Files). unmet_step (packages f.pkg (store_of c.args.db.now)) in
    going_more g.D.Disk g.O.Sink g.met.D.Disk.follows_trans g.met.O.Sink.follows_trans (λ (f : Files). map (step f) c.split_at.result.0.now)
    (λ (f : Files). map (step f) c.split_at.result.1.now) (rows_are g (goal.at.loop-first-preserved g c).After-put_row) c.loop-first.invariant
    c.in_ok-put_row.ensures.tells c.in_ok-put_row.ensures.went

pub returns-in_err-put_row : goal.returns-in_err-put_row
returns-in_err-put_row g c =
    let step = λ (f : Files). unmet_step (packages f.pkg (store_of c.args.db.now)) in
    let s = going_stop g.D.Disk g.O.Sink g.met.D.Disk.follows_trans g.met.O.Sink.follows_trans (λ (f : Files). map (step f) c.split_at.result.0.now)
    (λ (f : Files). map (step f) c.split_at.result.1.now) (rows_are g (goal.at.returns-in_err-put_row g c).After-put_row) c.loop-first.invariant
    (Unit {0}) c.in_err-put_row.ensures.tells c.in_err-put_row.ensures.went in
    let p = err_from_is_err_and c.from_residual.result c.from_residual.ensures.1 in
    rw (p.1, p.2) (record { went = s.0; tells = s.1 })

pub returns : goal.returns
returns g c =
    let s = going_end g.D.Disk g.O.Sink (λ (f : Files). ap (map (unmet_step (packages f.pkg (store_of c.args.db.now))))
    (front_none c.loop-first.left.now (sym c.in_default.ensures.value))) c.loop-first.invariant {T = Unit {0}} {t = tt} in
    record { went = s.0; tells = s.1 }
