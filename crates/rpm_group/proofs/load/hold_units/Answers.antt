use Rattle.std.proofs.Common.{Err, ◌*◌, ◌/◌, length, take, sym, ap, ◌∙◌, arith}
use Rattle.rpm_group.proofs.Vocabulary.{Files, laid_files, Log, looks_at_then}
use Rattle.rpm_group.proofs.Copies.{page_count, copied_more, copied_all}
use Rattle.rpm_group.proofs.load.hold_units.Goals as goal

pub loop-done-preserved : goal.loop-done-preserved
loop-done-preserved g c =
    let D = g.D.Disk in
    let inv = c.loop-done.invariant in
    let n = c.min-n.result in
    let old = c.args.held.now in
    let log = (D.files c.args.disk.now).log in
    let k = page_count n c.loop-done.page c.min-n.array_long (omega (arith, c.min-n.ensures)) in
    record {
      place = omega (arith, c.min-n.ensures);
      held = λ told files.
          copied_more c.args.file c.args.at c.args.from c.loop-done.done n log (laid_files old files) (laid_files c.loop-done.held files)
          (laid_files c.hold_piece.new.held files) (omega (arith, c.min-n.ensures)) (omega (arith, c.min-n.ensures, c.requires.within told))
          (length (take (16 * n) c.loop-done.page) / 16) (D.files c.loop-done.disk).log k (inv.held told files)
          (ap (λ (f : Files). f.log) (inv.looks.untouched told).same) (c.in_ok-hold_piece.ensures.held told files);
      looks = looks_at_then _ Log g.met.D.Disk.follows_trans c.args.disk.now c.loop-done.disk c.hold_piece.new.disk inv.looks
          c.hold_piece.ensures.reads.looks;
      faults = omega (arith, inv.faults, c.hold_piece.ensures.reads.cause.later);
    }

pub returns-clause-held : goal.returns-clause-held
returns-clause-held g c = λ told files.
    copied_all c.args.file c.args.at c.args.from c.loop-done.done c.args.count (g.D.Disk.files c.args.disk.now).log (laid_files c.args.held.now files)
    (laid_files c.loop-done.held files) (omega (arith, c.loop-done.invariant.place)) c.requires.some (c.requires.within told)
    (c.loop-done.invariant.held told files)

pub returns-in_err-hold_piece-clause-reads : goal.returns-in_err-hold_piece-clause-reads
returns-in_err-hold_piece-clause-reads g c = record {
  looks = looks_at_then _ Log g.met.D.Disk.follows_trans c.args.disk.now c.loop-done.disk c.hold_piece.new.disk c.loop-done.invariant.looks
      c.hold_piece.ensures.reads.looks;
  cause = record {
    later = omega (arith, c.loop-done.invariant.faults, c.hold_piece.ensures.reads.cause.later);
    rose = λ is.
        let same = rw is at c.from_residual.ensures.1 in
        let failed = c.hold_piece.ensures.reads.cause.rose (c.in_err-hold_piece.was ∙ ap Err (sym same)) in
        omega (arith, c.loop-done.invariant.faults, failed);
  };
}
