use Rattle.std.proofs.Common.{◌≡◌, ◌*◌, ◌-◌, IsTrue, length, take, None, refl, ap, arith}
use Rattle.std.proofs.lemmas.List.{length-take}
use Rattle.rpm_pkgdb.proofs.Vocabulary.{Files, looks_more, looks_none, Pkg, slot_units}
use Rattle.rpm_pkgdb.proofs.Changing.{reads_on, reads_then}
use Rattle.rpm_pkgdb.proofs.ReadingLaws.{nothing_read, read_of, read_count}
use Rattle.rpm_pkgdb.proofs.TableLaws.{none_of}
use Rattle.rpm_pkgdb.proofs.reading.read_pieces.Goals as goal

pub loop-k-init : goal.loop-k-init
loop-k-init g c = record {
  read = nothing_read _ _ _ _ _ c.requires.empty;
  count = omega (arith, ap length c.requires.empty);
  order = c.requires.order;
  awaits = c.requires.awaits;
  reads = record {
    looks = looks_more _ Pkg 0 _ _ _ (omega arith) (looks_none _ Pkg g.met.D.Disk.follows_refl c.args.disk.now);
    cause = record { later = omega arith; failed = tt };
  };
}

pub loop-k-preserved : goal.loop-k-preserved
loop-k-preserved g c =
    let was = c.loop-k.invariant in
    let done = c.in_ok-reading.ensures in
    let pages = c.args.pages in
    let none : c.in_ok-reading.reading.reason ≡ None = none_of _ _ _ refl c.is_some.ensures c.if-is_some.false in
    let all = read_count _ _ _ _ _ c.in_ok-reading.reading done.read none in
    let buffer = c.loop-k.buffer in
    let more = c.min-more.result in
    let part : length (take (16 * more) buffer) ≡ 16 * more = omega (arith, length-take (16 * more) buffer, c.min-more.ensures) in
    record {
      read = read_of (IsTrue g.D.Disk.tells) pages c.args.units (slot_units pages (g.D.Disk.files c.loop-k.disk).pkg)
          (slot_units pages (g.D.Disk.files c.args.disk.now).pkg) c.in_ok-reading.reading.rising.slots.items
          (λ told. ap (λ (f : Files). slot_units pages f.pkg) (was.reads.looks.untouched told).same) done.read.slots;
      count = omega (arith, was.count, all, part, c.min-more.ensures, c.loop-k-test.true);
      order = done.order;
      awaits = done.awaits (256 * pages - 2) was.awaits;
      reads = reads_on g.D.Disk (reads_then g.D.Disk g.met.D.Disk.follows_trans was.reads done.reads (omega (arith, all, part)));
    }
