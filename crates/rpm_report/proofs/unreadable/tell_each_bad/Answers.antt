use Rattle.rpm_report.proofs.Vocabulary.{Anywhere, packages, store_of}
use Rattle.std.proofs.lemmas.Result.{err_from_is_err_and}
use Rattle.rpm_print.proofs.laws.Askable.{asked_still}
use Rattle.rpm_report.proofs.SoFar.{so_far_none, so_far_more, so_far_stops, so_far_ends}
use Rattle.rpm_print.proofs.laws.Verified.{next_entry, no_entry, from_one, told_none, told_more, told_stop, told_end}
use Rattle.rpm_report.proofs.unreadable.tell_each_bad.Goals as goal

pub tell_bad-requires : goal.tell_bad-requires
tell_bad-requires g c = record { asked = asked_still g.D.Disk _ _ _ c.loop-next.invariant.far.looks.untouched c.requires.asked }

pub loop-next-init : goal.loop-next-init
loop-next-init g c = record {
  far = so_far_none g.D.Disk g.E.Sink g.met.D.Disk.follows_refl g.met.E.Sink.follows_refl c.args.disk.now c.args.err.now;
  told = λ told ot o. told_none;
}

pub loop-next-preserved : goal.loop-next-preserved
loop-next-preserved g c =
    let s = (store_of c.args.db.now) in
    let m = c.in-Some.next in
    let inv = c.loop-next.invariant in
    let start = g.D.Disk.files c.args.disk.now in
    let next = next_entry (packages start.pkg s) c.loop-next.number m (c.in-Some.ensures.told start.pkg) in
    record {
      far = so_far_more g.D.Disk g.E.Sink g.met.D.Disk.follows_trans g.met.E.Sink.follows_trans inv.far c.in_ok-bad.ensures.tells;
      told = λ told ot o. told_more next.2 (inv.told told ot o) {P = Anywhere}
          (rw ((inv.far.looks.untouched told).same, next.1) at (c.in_ok-bad.ensures.went told ot o));
    }

pub returns-in_err-bad : goal.returns-in_err-bad
returns-in_err-bad g c =
    let db = c.args.db.now in
    let m = c.in-Some.next in
    let inv = c.loop-next.invariant in
    let start = g.D.Disk.files c.args.disk.now in
    let next = next_entry (packages start.pkg (store_of db)) c.loop-next.number m (c.in-Some.ensures.told start.pkg) in
    let p = err_from_is_err_and c.from_residual.result c.from_residual.ensures.1 in
    rw (p.1, p.2) (record {
      went = λ told ot o. told_stop next.2 (inv.told told ot o) {P = Anywhere} Anywhere (λ b any. any) (from_one start.pkg db (c.requires.asked.keeps told))
          (rw ((inv.far.looks.untouched told).same, next.1) at (c.in_err-bad.ensures.went told ot o));
      tells = so_far_stops g.D.Disk g.E.Sink g.met.D.Disk.follows_trans g.met.E.Sink.follows_trans inv.far c.in_err-bad.ensures.tells;
    })

pub returns : goal.returns
returns g c = record {
  went = λ told ot o.
      let file = (g.D.Disk.files c.args.disk.now).pkg in
      told_end Anywhere (no_entry _ c.loop-next.number (c.in_default.ensures.told file)) (from_one file c.args.db.now (c.requires.asked.keeps told))
      (c.loop-next.invariant.told told ot o);
  tells = so_far_ends g.D.Disk g.E.Sink c.loop-next.invariant.far;
}
