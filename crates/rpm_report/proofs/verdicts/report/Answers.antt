use Rattle.rpm_report.proofs.Vocabulary.{Anywhere, bearer, Bearer, cost_more, cost_some, Everything, inner, looks_more, looks_none, looks_then, packages, Pkg}
use Rattle.rpm_report.proofs.Vocabulary.{pkg_read, reached_by, store_of}
use Rattle.std.proofs.Common.{◌≡◌, ◌+◌, ◌≤◌, [], ◌∷◌, Err, sym, ap, ◌∙◌, subst, arith}
use Rattle.rpm_report.proofs.laws.Reporting.{went_report}
use Rattle.rpm_print.proofs.laws.Askable.{asked_still}
use Rattle.rpm_effects.proofs.laws.Halts.{of_err}
use Rattle.rpm_print.proofs.laws.Verified.{next_entry, no_entry, from_one, told_none, told_more, told_stop, told_end, went_failing, went_sound}
use Rattle.rpm_report.proofs.verdicts.report.Goals as goal

pub verify_one-requires-clause-asked : goal.verify_one-requires-clause-asked
verify_one-requires-clause-asked g c = asked_still g.D.Disk _ _ _ c.loop-next.invariant.looks.untouched c.requires.asked

pub loop-next-init : goal.loop-next-init
loop-next-init g c = record {
  looks = looks_more _ Pkg 0 _ _ _ (omega arith) (looks_none _ Pkg g.met.D.Disk.follows_refl c.args.disk.now);
  disk = omega arith;
  out = omega arith;
  out_rest = g.met.O.Sink.follows_refl (inner c.args.out.now);
  told = λ told et e. told_none;
}

pub loop-next-preserved : goal.loop-next-preserved
loop-next-preserved g c =
    let db = c.args.db.now in
    let k = c.loop-next.number in
    let m = c.in-Some.next in
    let inv = c.loop-next.invariant in
    let done = c.in-Ok.ensures in
    let start = g.D.Disk.files c.args.disk.now in
    let next = next_entry (packages start.pkg (store_of db)) k m (c.in-Some.ensures.told start.pkg) in
    record {
      looks = looks_then _ Pkg g.met.D.Disk.follows_trans _ _ _ _ _ _ (omega (arith, cost_more db k m c.in-Some.ensures.next.0)) inv.looks done.looks;
      disk = omega (arith, inv.disk, done.disk.later);
      out = omega (arith, inv.out, done.out.cause.later);
      out_rest = g.met.O.Sink.follows_trans (inner c.args.out.now) (inner c.loop-next.out) (inner c.verify_one.new.out) inv.out_rest done.out.goes_on;
      told = λ told et e. told_more next.2 (inv.told told et e) {P = λ for. for ≡ bearer 0 m}
          (rw (inv.looks.untouched told).same at (done.went told et e));
    }

pub returns-in-Err-clause-went : goal.returns-in-Err-clause-went
returns-in-Err-clause-went g c = λ told et e.
    let db = c.args.db.now in
    let k = c.loop-next.number in
    let m = c.in-Some.next in
    let inv = c.loop-next.invariant in
    let start = g.D.Disk.files c.args.disk.now in
    let next = next_entry (packages start.pkg (store_of db)) k m (c.in-Some.ensures.told start.pkg) in
    let reads : Bearer → Type 0 = λ for. pkg_read g.D.Disk c.verify_one.new.disk ≤ pkg_read g.D.Disk c.args.disk.now
    + reached_by (Everything ∷ []) db for in
    let few : reads (bearer 0 m) = omega (arith, inv.looks.reads.pkg, c.in-Err.ensures.looks.reads.pkg, cost_more db k m c.in-Some.ensures.next.0) in
    rw c.from.ensures (went_report _ (Err c.in-Err.halt) _ _ reads
    (told_stop next.2 (inv.told told et e) {P = λ for. for ≡ bearer 0 m} reads (λ b is. subst reads (sym is) few) (from_one start.pkg db
    (c.requires.asked.keeps told))
    (rw (inv.looks.untouched told).same at (c.in-Err.ensures.went told et e))))

pub returns-in-Err-clause-looks : goal.returns-in-Err-clause-looks
returns-in-Err-clause-looks g c =
    let db = c.args.db.now in
    let m = c.in-Some.next in
    looks_then _ Pkg g.met.D.Disk.follows_trans _ _ _ _ _ _
    (omega (arith, cost_more db c.loop-next.number m c.in-Some.ensures.next.0, cost_some db m)) c.loop-next.invariant.looks c.in-Err.ensures.looks

pub returns-in-Err-clause-no_err : goal.returns-in-Err-clause-no_err
returns-in-Err-clause-no_err g c = λ is. c.in-Err.ensures.no_err (ap Err (of_err c.in-Err.halt (sym c.from.ensures ∙ is)))

pub returns-then-fails-clause-went : goal.returns-then-fails-clause-went
returns-then-fails-clause-went g c = λ told et e.
    let file = (g.D.Disk.files c.args.disk.now).pkg in
    went_failing _ _ _ Anywhere (rw c.if-fails.true at (told_end Anywhere (no_entry _ c.loop-next.number (c.in_default.ensures.told file))
    (from_one file c.args.db.now (c.requires.asked.keeps told)) (c.loop-next.invariant.told told et e)))

pub returns-clause-went : goal.returns-clause-went
returns-clause-went g c = λ told et e.
    let file = (g.D.Disk.files c.args.disk.now).pkg in
    went_sound _ _ _ Anywhere (rw c.if-fails.false at (told_end Anywhere (no_entry _ c.loop-next.number (c.in_default.ensures.told file))
    (from_one file c.args.db.now (c.requires.asked.keeps told)) (c.loop-next.invariant.told told et e)))

pub returns-then-fails-clause-looks : goal.returns-then-fails-clause-looks
returns-then-fails-clause-looks g c =
    looks_more _ Pkg _ _ _ _ (omega (arith, cost_some c.args.db.now c.loop-next.number)) c.loop-next.invariant.looks

pub returns-clause-looks : goal.returns-clause-looks
returns-clause-looks g c =
    looks_more _ Pkg _ _ _ _ (omega (arith, cost_some c.args.db.now c.loop-next.number)) c.loop-next.invariant.looks
