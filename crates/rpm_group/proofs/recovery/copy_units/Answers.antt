use Rattle.std.proofs.Common.{◌+◌, ◌*◌, ◌/◌, length, take, refl, ◌∙◌, arith}
use Rattle.rpm_group.proofs.Vocabulary.{changed_leaves_more, changed_leaves_then, leaves_none, reads_none, reads_then, with_itself}
use Rattle.rpm_group.proofs.Copies.{page_count, copied_more, copied_all, log_stays}
use Rattle.rpm_group.proofs.recovery.copy_units.Goals as goal

pub loop-done-init : goal.loop-done-init
loop-done-init g c = record {
  place = omega arith;
  files = λ told. with_itself c.args.file (g.D.Disk.files c.args.disk.now);
  log = λ told. refl;
  images = λ told. leaves_none g.D.Disk c.args.file c.args.at (c.args.at + c.args.count) c.args.disk.now;
  reads = reads_none _ g.met.D.Disk.follows_refl c.args.disk.now;
  faults = omega arith;
}

pub returns-in_err-copy_piece-clause-images : goal.returns-in_err-copy_piece-clause-images
returns-in_err-copy_piece-clause-images g c = λ told.
    let D = g.D.Disk in
    let inv = c.loop-done.invariant in
    let n = c.min-n.result in
    let k = page_count n c.loop-done.page c.min-n.array_long (omega (arith, c.min-n.ensures)) in
    changed_leaves_then D c.args.file c.args.at (c.args.at + c.args.count) c.args.disk.now c.loop-done.disk c.copy_piece.new.disk
    (λ image left. g.met.D.Disk.earlier c.loop-done.disk (D.moment c.args.disk.now) (D.moment c.loop-done.disk) image told inv.reads.later (omega arith) left)
    (inv.images told)
    (changed_leaves_more D c.args.file (c.args.at + c.loop-done.done)
    (c.args.at + c.loop-done.done + length (take (16 * n) c.loop-done.page) / 16) c.args.at (c.args.at + c.args.count) c.loop-done.disk
    c.copy_piece.new.disk
    (omega arith) (omega (arith, k, c.min-n.ensures)) (c.copy_piece.ensures.images told))

pub loop-done-preserved : goal.loop-done-preserved
loop-done-preserved g c =
    let D = g.D.Disk in
    let inv = c.loop-done.invariant in
    let n = c.min-n.result in
    let first = D.files c.args.disk.now in
    let k = page_count n c.loop-done.page c.min-n.array_long (omega (arith, c.min-n.ensures)) in
    record {
      place = omega (arith, c.min-n.ensures);
      files = λ told. copied_more c.args.file c.args.at c.args.from c.loop-done.done n first.log first (D.files c.loop-done.disk)
          (D.files c.copy_piece.new.disk) (omega (arith, c.min-n.ensures)) (omega (arith, c.min-n.ensures, c.requires.within told))
          (length (take (16 * n) c.loop-done.page) / 16) (D.files c.loop-done.disk).log k (inv.files told) (inv.log told)
          (c.in_ok-copy_piece.ensures.written told);
      log = λ told. log_stays c.args.file _ (D.files c.loop-done.disk) (D.files c.copy_piece.new.disk) c.requires.not_log
          (c.in_ok-copy_piece.ensures.written told) ∙ inv.log told;
      images = λ told.
          changed_leaves_then D c.args.file c.args.at (c.args.at + c.args.count) c.args.disk.now c.loop-done.disk c.copy_piece.new.disk
          (λ image left. g.met.D.Disk.earlier c.loop-done.disk (D.moment c.args.disk.now) (D.moment c.loop-done.disk) image told inv.reads.later
          (omega arith) left)
          (inv.images told)
          (changed_leaves_more D c.args.file (c.args.at + c.loop-done.done)
          (c.args.at + c.loop-done.done + length (take (16 * n) c.loop-done.page) / 16) c.args.at (c.args.at + c.args.count) c.loop-done.disk
          c.copy_piece.new.disk
          (omega arith) (omega (arith, k, c.min-n.ensures)) (c.copy_piece.ensures.images told));
      reads = reads_then _ g.met.D.Disk.follows_trans c.args.disk.now c.loop-done.disk c.copy_piece.new.disk inv.reads c.copy_piece.ensures.reads.log;
      faults = omega (arith, inv.faults, c.copy_piece.ensures.reads.cause.later);
    }

pub returns-clause-written : goal.returns-clause-written
returns-clause-written g c = λ told.
    copied_all c.args.file c.args.at c.args.from c.loop-done.done c.args.count (g.D.Disk.files c.args.disk.now).log (g.D.Disk.files c.args.disk.now)
    (g.D.Disk.files c.loop-done.disk) (omega (arith, c.loop-done.invariant.place)) c.requires.some (c.requires.within told)
    (c.loop-done.invariant.files told)
