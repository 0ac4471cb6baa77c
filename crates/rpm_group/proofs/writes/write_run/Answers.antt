use Rattle.std.proofs.Common.{◌≡◌, ℕ, ◌+◌, ◌-◌, ◌*◌, ◌/◌, ◌≤◌, List, length, take, refl, ap, ◌∙◌, arith}
use Rattle.std.proofs.lemmas.List.{length-take}
use Rattle.rpm_group.proofs.Vocabulary.{changed_leaves_more, changed_leaves_then, file_of, Files, leaves_none, nothing_none, nothing_then, with_units, put_some}
use Rattle.rpm_group.proofs.Vocabulary.{units_held, with_file, with_itself}
use Rattle.rpm_group.proofs.ByteLaws.{length-put_mid}
use Rattle.rpm_group.proofs.Runs.{run_more, run_none, run_all}
use Rattle.rpm_group.proofs.writes.write_run.Goals as goal

piece_count : (n : ℕ) (buffer : List ℕ) → length buffer ≡ 65536 → n ≤ 4096 → length (take (16 * n) buffer) / 16 ≡ n
piece_count n buffer long most = omega (arith, length-take (16 * n) buffer, long, most)

pub loop-done-init : goal.loop-done-init
loop-done-init g c = record {
  long = c.told-buffer;
  from = omega arith;
  end = omega (arith, c.requires.some);
  files = λ told. run_none c.args.table.now.items c.args.file c.args.at c.args.from (c.args.from - c.args.from) (g.D.Disk.files c.args.disk.now)
      (omega arith) (with_itself c.args.file (g.D.Disk.files c.args.disk.now));
  images = λ told. leaves_none g.D.Disk c.args.file c.args.at (c.args.at + (c.args.end - c.args.from)) c.args.disk.now;
  reads = nothing_none _ g.met.D.Disk.follows_refl c.args.disk.now;
  faults = omega arith;
}

pub returns-in_err-write_piece-clause-images : goal.returns-in_err-write_piece-clause-images
returns-in_err-write_piece-clause-images g c = λ told.
    let D = g.D.Disk in
    let inv = c.loop-done.invariant in
    let n = c.min-n.result in
    let place = c.args.at + (c.loop-done.done - c.args.from) in
    let k = piece_count n c.loop-done.buffer inv.long (omega (arith, c.min-n.ensures)) in
    changed_leaves_then D c.args.file c.args.at (c.args.at + (c.args.end - c.args.from)) c.args.disk.now c.loop-done.disk
    c.write_piece.new.disk
    (λ image left. g.met.D.Disk.earlier c.loop-done.disk (D.moment c.args.disk.now) (D.moment c.loop-done.disk) image told inv.reads.later (omega arith) left)
    (inv.images told)
    (changed_leaves_more D c.args.file place (place + length (take (16 * n) c.loop-done.buffer) / 16) c.args.at
    (c.args.at + (c.args.end - c.args.from)) c.loop-done.disk c.write_piece.new.disk
    (omega arith) (omega (arith, k, c.min-n.ensures, inv.from)) (c.write_piece.ensures.images told))

pub loop-done-preserved : goal.loop-done-preserved
loop-done-preserved g c =
    let D = g.D.Disk in
    let inv = c.loop-done.invariant in
    let n = c.min-n.result in
    let table = c.args.table.now.items in
    let done = c.loop-done.done in
    let place = c.args.at + (done - c.args.from) in
    let mid : Files = D.files c.loop-done.disk in
    let k = piece_count n c.loop-done.buffer inv.long (omega (arith, c.min-n.ensures)) in
    let within : 0 + 16 * n ≤ length c.loop-done.buffer = omega (arith, inv.long, c.min-n.ensures) in
    let same : length c.write_piece.new.bytes ≡ 16 * n =
    omega (arith, c.write_piece.auto.bytes, length-take (16 * n) c.loop-done.buffer, inv.long, c.min-n.ensures) in
    record {
      long = length-put_mid 0 (16 * n) c.loop-done.buffer c.write_piece.new.bytes same within ∙ inv.long;
      from = omega (arith, inv.from);
      end = omega (arith, c.min-n.ensures);
      files = λ told.
          run_more table c.args.file c.args.at c.args.from done (done + n) n place (D.files c.args.disk.now) mid (D.files c.write_piece.new.disk) inv.from
          (omega (arith, c.min-n.ensures)) (omega arith) refl (inv.files told)
          (c.in_ok-write_piece.ensures.written told
          ∙ ap (λ (j : ℕ). with_file c.args.file (with_units place (units_held table done j) (file_of c.args.file mid)) mid) k);
      images = λ told.
          changed_leaves_then D c.args.file c.args.at (c.args.at + (c.args.end - c.args.from)) c.args.disk.now c.loop-done.disk
          c.write_piece.new.disk
          (λ image left. g.met.D.Disk.earlier c.loop-done.disk (D.moment c.args.disk.now) (D.moment c.loop-done.disk) image told inv.reads.later
          (omega arith) left)
          (inv.images told)
          (changed_leaves_more D c.args.file place (place + length (take (16 * n) c.loop-done.buffer) / 16) c.args.at
          (c.args.at + (c.args.end - c.args.from)) c.loop-done.disk c.write_piece.new.disk
          (omega arith) (omega (arith, k, c.min-n.ensures, inv.from)) (c.write_piece.ensures.images told));
      reads = nothing_then _ g.met.D.Disk.follows_trans c.args.disk.now c.loop-done.disk c.write_piece.new.disk inv.reads
          c.write_piece.ensures.reads.nothing;
      faults = omega (arith, inv.faults, c.write_piece.ensures.reads.cause.later);
    }

pub returns-clause-written : goal.returns-clause-written
returns-clause-written g c = λ told.
    let D = g.D.Disk in
    let same : c.loop-done.done - c.args.from ≡ c.args.end - c.args.from = omega (arith, c.loop-done.invariant.end) in
    run_all c.args.table.now.items c.args.file c.args.at c.args.from (c.args.end - c.args.from) (D.files c.args.disk.now) (D.files c.loop-done.disk)
    (omega (arith, c.requires.some))
    (c.loop-done.invariant.files told
    ∙ ap (λ (k : ℕ). with_file c.args.file
    (put_some c.args.at (units_held c.args.table.now.items c.args.from k) (file_of c.args.file (D.files c.args.disk.now)))
    (D.files c.args.disk.now)) same)
