use Rattle.std.proofs.Common.{◌≡◌, ap, ◌∙◌, arith, subst, Some, None, List, ◌++◌}
use Rattle.std.specs.FinMap as finite
use Rattle.rpm_db.proofs.Vocabulary.{above, cost, cost_all, cost_to, cost_to-cost_all, cost_to_more, Files, in_file, looks_more, looks_none, looks_then}
use Rattle.rpm_db.proofs.Vocabulary.{none_stored, packages, Pkg, Row, rows_at, rows_in}
use Rattle.rpm_db.proofs.Rowing.{rows_begin, rows_more, rows_end, none_at, next_package}
use Rattle.rpm_db.proofs.rows.rows_of.Goals as goal

pub loop-number-init : goal.loop-number-init
loop-number-init g c = record {
  keeps = c.requires.keeps;
  looks =
      looks_more g.D.Disk Pkg 0
      (cost_to 0 c.args.store.now) c.args.disk.now c.args.disk.now (omega arith)
      (looks_none g.D.Disk Pkg g.met.D.Disk.follows_refl
      c.args.disk.now);
  faults = omega arith;
  same = λ told.
      let map = packages (g.D.Disk.files c.args.disk.now).pkg c.args.store.now in
      ap (λ (rs : List Row). rs ++ rows_in (above 0 (finite.entries map))) c.new-rows.ensures
      ∙ rows_begin map (none_at (g.D.Disk.files c.args.disk.now).pkg c.args.store.now 0
      (none_stored (g.D.Disk.files c.args.disk.now).pkg (in_file c.args.store.now) (c.requires.keeps told)));
}

pub loop-number-preserved : goal.loop-number-preserved
loop-number-preserved g c =
    let store = c.args.store.now in
    let k = c.loop-number.passed in
    let m = c.in-Some.number in
    let inv = c.loop-number.invariant in
    let e = c.in_ok-room.ensures in
    let file = (g.D.Disk.files c.args.disk.now).pkg in
    record {
      keeps = e.kept;
      looks =
          looks_then g.D.Disk Pkg g.met.D.Disk.follows_trans
          (cost_to k store) (cost m store) (cost_to m store) c.args.disk.now c.loop-number.disk c.push_package.new.disk
          (cost_to_more store k m c.in-Some.ensures.0) inv.looks e.looks;
      faults = omega (arith, inv.faults, e.cause.later);
      same = λ told. rows_more (packages file store) k m (next_package file store k (Some m) c.in-Some.ensures) c.loop-number.rows (inv.same told)
          c.push_package.new.rows (subst (λ (f : Files). c.push_package.new.rows ≡ c.loop-number.rows ++ rows_at m (finite.get (packages f.pkg store) m))
          (inv.looks.untouched told).same (e.rows told));
    }

pub returns-in_err-room-clause-looks : goal.returns-in_err-room-clause-looks
returns-in_err-room-clause-looks g c =
    let store = c.args.store.now in
    let k = c.loop-number.passed in
    let m = c.in-Some.number in
    looks_then g.D.Disk Pkg g.met.D.Disk.follows_trans
    (cost_to k store) (cost m store) (cost_all store) c.args.disk.now c.loop-number.disk c.push_package.new.disk
    (omega (arith, cost_to_more store k m c.in-Some.ensures.0, cost_to-cost_all store m)) c.loop-number.invariant.looks c.in_err-room.ensures.looks

pub returns-clause-looks : goal.returns-clause-looks
returns-clause-looks g c =
    looks_more g.D.Disk Pkg
    (cost_to c.loop-number.passed c.args.store.now) (cost_all c.args.store.now) c.args.disk.now c.loop-number.disk
    (cost_to-cost_all c.args.store.now c.loop-number.passed) c.loop-number.invariant.looks

pub returns-clause-rows : goal.returns-clause-rows
returns-clause-rows g c = λ told.
    let file = (g.D.Disk.files c.args.disk.now).pkg in
    rows_end (packages file c.args.store.now) c.loop-number.passed (next_package file c.args.store.now c.loop-number.passed None c.in_default.ensures)
    c.loop-number.rows (c.loop-number.invariant.same told)
