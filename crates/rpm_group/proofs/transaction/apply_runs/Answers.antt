use Rattle.std.proofs.Common.{◌≡◌, ℕ, ◌+◌, ◌-◌, ◌<◌, ◌++◌, ◌∷◌, [], refl, sym, ap, subst, ◌∙◌, arith}
use Rattle.rpm_group.proofs.Vocabulary.{Files, EntriesOfTable, nothing_none, nothing_then, run_entry, started, WasWithin, with_entry, within_none}
use Rattle.rpm_group.proofs.Applied.{within_more, with_entries-append}
use Rattle.rpm_group.proofs.Countings.{none_begun, gap_begins, run_begins}
use Rattle.rpm_group.proofs.LoggedLaws.{logged_none, logged_gap, logged_more}
use Rattle.rpm_group.proofs.LaidRuns.{logged_laid}
use Rattle.rpm_group.proofs.transaction.apply_runs.Goals as goal

pub loop-at-init : goal.loop-at-init
loop-at-init g c =
    let D = g.D.Disk in
    let old = c.args.disk.now in
    record {
      end = omega arith;
      starts = λ some. absurd (omega (arith, some));
      written = λ told. ([], logged_none c.args.file c.args.pages.now.table.items (none_begun c.args.pages.now.table.items), refl);
      images = λ told entries covers. started D old (WasWithin entries (D.left_since old (D.moment old)))
          (λ image left. (image, left, within_none entries image));
      reads = nothing_none _ g.met.D.Disk.follows_refl old;
      faults = omega arith;
    }

pub returns-in_err-write_run-clause-images : goal.returns-in_err-write_run-clause-images
returns-in_err-write_run-clause-images g c = λ told entries covers.
    let D = g.D.Disk in
    let inv = c.loop-at.invariant in
    let old = c.args.disk.now in
    let mid = c.loop-at.disk in
    let first = c.next_unit-first.result in
    let stop = c.next_unit-stop.result in
    let whole : first + (stop - first) ≡ stop = omega (arith, c.if-first-stop.true) in
    within_more D entries c.args.file first (first + (stop - first)) old mid c.write_run.new.disk (omega (arith, c.if-first-stop.true))
    (λ i low high. covers i (omega (arith, high, whole, c.next_unit-stop.ensures.end)) (c.next_unit-stop.ensures.between i low (omega (arith, high, whole))))
    (λ image left. g.met.D.Disk.earlier mid (D.moment old) (D.moment mid) image told inv.reads.later (omega arith) left)
    (inv.images told entries covers) (c.write_run.ensures.images told)

pub loop-at-preserved-in_ok-write_run : goal.loop-at-preserved-in_ok-write_run
loop-at-preserved-in_ok-write_run g c =
    let D = g.D.Disk in
    let inv = c.loop-at.invariant in
    let old = c.args.disk.now in
    let mid = c.loop-at.disk in
    let table = c.args.pages.now.table.items in
    let first = c.next_unit-first in
    let stop = c.next_unit-stop in
    let whole : first.result + (stop.result - first.result) ≡ stop.result = omega (arith, c.if-first-stop.true) in
    let starts = λ (some : 0 < c.loop-at.at). inv.starts some c.loop-at-test.true in
    record {
      end = stop.ensures.end;
      starts = λ some below. stop.ensures.found below;
      written = λ told.
          let so_far = inv.written told in
          let entry = run_entry c.args.file table first.result stop.result in (
            so_far.0 ++ entry ∷ [],
            logged_more so_far.0 c.args.file table c.loop-at.at first.result so_far.1 first.ensures.from first.ensures.between stop.result
                c.if-first-stop.true stop.ensures.between
                (run_begins table c.loop-at.at first.result first.ensures.from first.ensures.between stop.result c.if-first-stop.true
                stop.ensures.between starts),
            c.in_ok-write_run.ensures.written told
                ∙ ap (λ (f : Files). with_entry entry f) so_far.2
                ∙ sym (with_entries-append so_far.0 (entry ∷ []) (D.files old)),
          );
      images = λ told entries covers.
          within_more D entries c.args.file first.result (first.result + (stop.result - first.result)) old mid
          c.write_run.new.disk (omega (arith, c.if-first-stop.true))
          (λ i low high. covers i (omega (arith, high, whole, stop.ensures.end)) (stop.ensures.between i low (omega (arith, high, whole))))
          (λ image left. g.met.D.Disk.earlier mid (D.moment old) (D.moment mid) image told inv.reads.later (omega arith) left)
          (inv.images told entries covers) (c.write_run.ensures.images told);
      reads = nothing_then _ g.met.D.Disk.follows_trans old mid c.write_run.new.disk inv.reads c.write_run.ensures.reads.nothing;
      faults = omega (arith, inv.faults, c.write_run.ensures.reads.cause.later);
    }

pub loop-at-preserved : goal.loop-at-preserved
loop-at-preserved g c =
    let inv = c.loop-at.invariant in
    let table = c.args.pages.now.table.items in
    let first = c.next_unit-first in
    let stop = c.next_unit-stop in
    let same : stop.result ≡ first.result = omega (arith, c.if-first-stop.false, stop.ensures.from) in
    record {
      end = stop.ensures.end;
      starts = λ some below. stop.ensures.found below;
      written = λ told.
          let so_far = inv.written told in (
            so_far.0,
            subst (λ (i : ℕ). EntriesOfTable so_far.0 c.args.file table i) (sym same)
                (logged_gap so_far.0 c.args.file table c.loop-at.at first.result so_far.1 first.ensures.from first.ensures.between
                (gap_begins table c.loop-at.at first.result first.ensures.from first.ensures.between)),
            so_far.2,
          );
      images = inv.images;
      reads = inv.reads;
      faults = inv.faults;
    }

pub returns-clause-written : goal.returns-clause-written
returns-clause-written g c = λ told.
    let pages = c.args.pages.now in
    let so_far = c.loop-at.invariant.written told in
    let done : c.loop-at.at ≡ pages.end = omega (arith, c.loop-at.invariant.end) in
    so_far.2 ∙ logged_laid so_far.0 c.args.file pages.table.items pages.end (subst (λ (i : ℕ). EntriesOfTable so_far.0 c.args.file pages.table.items i) done
    so_far.1) pages.past pages.last (g.D.Disk.files c.args.disk.now)
