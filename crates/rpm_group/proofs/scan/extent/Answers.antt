use Rattle.std.proofs.Common.{◌≡◌, ℕ, ◌<◌, sym, ap, arith}
use Rattle.rpm_group.proofs.Vocabulary.{begins_run, count_below, is_held}
use Rattle.rpm_group.proofs.Countings.{none_begun, none_held, gap_begins, gap_units, run_begins, run_units}
use Rattle.rpm_group.proofs.scan.extent.Goals as goal

pub loop-at-init : goal.loop-at-init
loop-at-init c = record {
  end = omega arith;
  bound = omega arith;
  runs = sym (none_begun c.args.table.now.items);
  units = sym (none_held c.args.table.now.items);
  starts = λ some. absurd (omega (arith, some));
}

pub loop-at-preserved-then-first-stop : goal.loop-at-preserved-then-first-stop
loop-at-preserved-then-first-stop c =
    let inv = c.loop-at.invariant in
    let table = c.args.table.now.items in
    let first = c.next_unit-first in
    let stop = c.next_unit-stop in
    let starts = λ (some : 0 < c.loop-at.at). inv.starts some c.loop-at-test.true in
    let begun = run_begins table c.loop-at.at first.result first.ensures.from first.ensures.between stop.result c.if-first-stop.true
    stop.ensures.between starts in
    let counted = run_units table c.loop-at.at first.result first.ensures.from first.ensures.between stop.result c.if-first-stop.true
    stop.ensures.between starts in
    record {
      end = stop.ensures.end;
      bound = omega (arith, inv.bound, first.ensures.from);
      runs = omega (arith, begun, inv.runs);
      units = omega (arith, counted, inv.units);
      starts = λ some below. stop.ensures.found below;
    }

pub loop-at-preserved : goal.loop-at-preserved
loop-at-preserved c =
    let inv = c.loop-at.invariant in
    let table = c.args.table.now.items in
    let first = c.next_unit-first in
    let stop = c.next_unit-stop in
    let same : stop.result ≡ first.result = omega (arith, c.if-first-stop.false, stop.ensures.from) in
    record {
      end = stop.ensures.end;
      bound = omega (arith, inv.bound, first.ensures.from);
      runs = omega (
        arith,
        inv.runs,
        gap_begins table c.loop-at.at first.result first.ensures.from first.ensures.between,
        ap
            (λ (i : ℕ). count_below (begins_run table) i) same,
      );
      units = omega (
        arith,
        inv.units,
        gap_units table c.loop-at.at first.result first.ensures.from first.ensures.between,
        ap
            (λ (i : ℕ). count_below (is_held table) i) same,
      );
      starts = λ some below. stop.ensures.found below;
    }
