use Rattle.std.proofs.Common.{◌≡◌, ℕ, ◌+◌, ◌<◌, ◌≤◌, IsTrue, refl, inr, ap, ◌∙◌, arith}
use Rattle.rpm_pkgdb.proofs.Vocabulary.{StoreBeforeOrAfter, blank, end_of, KeepsStore, unit_at, Units, with_free}
use Rattle.rpm_pkgdb.proofs.ClearLaws.{put_elsewhere}
use Rattle.rpm_pkgdb.proofs.FreedLaws.{blank_then, put_blank, zeros_blank}
use Rattle.rpm_pkgdb.proofs.Changing.{map_ok, writes_then, crashes_while, crashes_next}
use Rattle.rpm_pkgdb.proofs.Reaching.{unit_ends, outside_ends}
use Rattle.rpm_pkgdb.proofs.Erases.{while_freed, freed, zeroed, stands_by}
use Rattle.rpm_pkgdb.proofs.free_slots.free_slot.Goals as goal

pub returns-in_err-write_one-clause-images : goal.returns-in_err-write_one-clause-images
returns-in_err-write_one-clause-images g c = λ told value has quiet.
    let D = g.D.Disk in
    let k = c.args.place in
    let F0 = (D.files c.args.disk.now).pkg in
    crashes_while g.D.Disk told (StoreBeforeOrAfter value (with_free k value) F0) c.write_one.ensures.writes
    (λ from image was torn. while_freed value k c.args.slot has c.slot_unit.result c.slot_unit.ensures F0 from.pkg image.pkg (quiet from was) torn)

pub returns-clause-images : goal.returns-clause-images
returns-clause-images g c = λ told value has quiet.
    let D = g.D.Disk in
    let k = c.args.place in
    let F0 = (D.files c.args.disk.now).pkg in
    let mid = (D.files c.write_one.new.disk).pkg in
    let P = StoreBeforeOrAfter value (with_free k value) F0 in
    let keeps : KeepsStore F0 value = (quiet (D.files c.args.disk.now) (g.met.D.Disk.as_read c.args.disk.now told)).keeps in
    let was = freed value k c.args.slot has c.slot_unit.result c.slot_unit.ensures F0 mid keeps (c.in_ok-write_one.ensures.written told) in
    crashes_next g.D.Disk told P c.write_one.ensures.writes
    (crashes_while g.D.Disk told P c.write_one.ensures.writes
    (λ from image here torn. while_freed value k c.args.slot has c.slot_unit.result c.slot_unit.ensures F0 from.pkg image.pkg (quiet from here) torn))
    (crashes_while g.D.Disk told P c.write_zeros.ensures.writes
    (λ from image here same. inr (zeroed value k c.args.slot has F0 mid from.pkg image.pkg was (c.in_ok-write_one.ensures.durable told from here) same)))

pub returns-clause-writes : goal.returns-clause-writes
returns-clause-writes g c =
    writes_then g.D.Disk g.met.D.Disk.follows_trans c.write_one.ensures.writes c.write_zeros.ensures.writes (omega arith) (λ x y r. tt)
    (λ x y z r s. tt)

pub returns-clause-freed : goal.returns-clause-freed
returns-clause-freed g c =
    let D = g.D.Disk in
    let k = c.args.place in
    let s = c.args.slot in
    let unit = c.slot_unit.result in
    let F0 = (D.files c.args.disk.now).pkg in
    let F1 = (D.files c.write_one.new.disk).pkg in
    let F2 = (D.files c.write_zeros.new.disk).pkg in
    map_ok c.write_zeros.result (λ (zeros : IsTrue D.tells → (i : ℕ) → s.offset ≤ i → i < end_of s → unit_at F2 i ≡ blank) told.
    let first = c.in_ok-write_one.ensures.written told in
    let same = c.write_zeros.ensures.writes.changes.pkg told in
    record {
      stands = λ value has keeps. zeroed value k s has F0 F1 F1 F2 (freed value k s has unit c.slot_unit.ensures F0 F1 keeps first) refl same;
      quiet = λ value has keeps image here.
          let was = freed value k s has unit c.slot_unit.ensures F0 F1 keeps first in
          let r = c.write_zeros.ensures.writes.changes.now told image here in
          stands_by (with_free k value) F0 F2 image.pkg (zeroed value k s has F0 F1 F1 F2 was refl same)
          (zeroed value k s has F0 F1 r.from.pkg image.pkg was (c.in_ok-write_one.ensures.durable told r.from r.was) r.pkg);
      zeros = zeros told;
      blanks =
          blank_then (k + 3) 0 0 F0 F1 F2 (put_blank (2 + k) unit (k + 3) 0 0 F0 F1 (omega arith) first)
          (zeros_blank (k + 3) s.offset s.count 0 0 F1 F2 same (zeros told));
      next = λ far. same.below 1 (omega (arith, far)) ∙ ap (λ (u : Units). unit_at u 1) first ∙ put_elsewhere (2 + k) unit F0 1 (omega arith);
      reach = λ limit place_ends slot_ends short.
          outside_ends limit s.offset s.count F1 F2 slot_ends same (unit_ends limit (2 + k) unit F0 F1 (omega arith) first short);
    }) c.write_zeros.ensures.zeros
