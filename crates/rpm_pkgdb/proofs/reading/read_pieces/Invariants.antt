use Rattle.std.proofs.Common.{◌≡◌, ◌-◌, ◌*◌, IsTrue, length, min}
use Rattle.rpm_pkgdb.proofs.Vocabulary.{AreRead, Awaits, IsInOrder, Pkg, ReadsOnly, slot_units}
use Rattle.rpm_pkgdb.proofs.Changing.{done}
use Rattle.rpm_pkgdb.proofs.reading.read_pieces.Given as goal

abbrev pub invariant-loop-k : goal.invariant-loop-k
invariant-loop-k g l = record {
  read : AreRead (IsTrue g.D.Disk.tells) l.pages l.units (slot_units l.pages (g.D.Disk.files l.initial.disk).pkg) l.rising.slots.items;
  count : length l.rising.slots.items ≡ min (1024 * l.k) (256 * l.pages - 2);
  order : IsInOrder l.rising;
  awaits : Awaits l.pages (256 * l.pages - 2) l.rising;
  reads : ReadsOnly g.D.Disk Pkg (16 * length l.rising.slots.items) done l.initial.disk l.disk;
}
