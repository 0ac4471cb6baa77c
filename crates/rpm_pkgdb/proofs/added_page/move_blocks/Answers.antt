use Rattle.std.proofs.Common.{◌≡◌, ℕ, IsTrue, inr, ◌+◌, ◌*◌, ◌-◌, ◌<◌, ◌≤◌, [], ◌∷◌, refl, arith}
use Rattle.rpm_pkgdb.proofs.Vocabulary.{Anything, blank, blocks_of, CanMove, end_of, HasUnits, KeepsStore, NoShorter, Store, Torn, unit_at, WhileMoved}
use Rattle.rpm_pkgdb.proofs.Changing.{map_ok, writes_then, writes_weaker, writes_failed, crashes_while, crashes_next}
use Rattle.rpm_pkgdb.proofs.FreedLaws.{moved_blank}
use Rattle.rpm_pkgdb.proofs.Reaching.{unit_ends, outside_ends}
use Rattle.rpm_pkgdb.proofs.Moves.{move_set, held_after, while_copied, while_slot_moved, while_old_zeroed, moved_alike}
use Rattle.rpm_pkgdb.proofs.added_page.move_blocks.Goals as goal

pub returns-in_err-copy_blocks-clause-images : goal.returns-in_err-copy_blocks-clause-images
returns-in_err-copy_blocks-clause-images g c = λ told value can quiet.
    let D = g.D.Disk in
    let old = c.args.old in
    let F0 = (D.files c.args.disk.now).pkg in
    let keeps : KeepsStore F0 value = (quiet (D.files c.args.disk.now) (g.met.D.Disk.as_read c.args.disk.now told)).keeps in
    crashes_while g.D.Disk told (WhileMoved value c.args.place old c.args.to F0) c.copy_blocks.ensures.writes
    (λ from image was same. while_copied value c.args.place old c.args.to can F0 keeps from.pkg image.pkg (quiet from was) same)

pub returns-in_err-write_one-clause-images : goal.returns-in_err-write_one-clause-images
returns-in_err-write_one-clause-images g c = λ told value can quiet.
    let D = g.D.Disk in
    let old = c.args.old in
    let F0 = (D.files c.args.disk.now).pkg in
    let F1 = (D.files c.copy_blocks.new.disk).pkg in
    let P = WhileMoved value c.args.place old c.args.to F0 in
    let keeps : KeepsStore F0 value = (quiet (D.files c.args.disk.now) (g.met.D.Disk.as_read c.args.disk.now told)).keeps in
    let some : 0 < old.count = (move_set value c.args.place old c.args.to can F0 keeps).some in
    let holds : HasUnits F1 c.args.to (blocks_of old F0) =
    held_after value c.args.place old c.args.to can F0 keeps F1 (c.in_ok-copy_blocks.ensures.long told some) (c.in_ok-copy_blocks.ensures.copied told) in
    crashes_next g.D.Disk told P c.copy_blocks.ensures.writes
    (crashes_while g.D.Disk told P c.copy_blocks.ensures.writes (λ from image was same. while_copied value c.args.place old c.args.to can F0 keeps from.pkg
    image.pkg (quiet from was) same))
    (crashes_while g.D.Disk told P c.write_one.ensures.writes
    (λ from image was torn. while_slot_moved value c.args.place old c.args.to can F0 keeps c.slot_unit.result c.slot_unit.ensures F1 F1
    (c.copy_blocks.ensures.writes.changes.pkg told) holds from.pkg image.pkg (c.in_ok-copy_blocks.ensures.durable told from was) torn))

pub returns-clause-images : goal.returns-clause-images
returns-clause-images g c = λ told value can quiet.
    let D = g.D.Disk in
    let old = c.args.old in
    let place = c.args.place in
    let to = c.args.to in
    let at = c.min-at.result in
    let n = end_of old - at in
    let F0 = (D.files c.args.disk.now).pkg in
    let F1 = (D.files c.copy_blocks.new.disk).pkg in
    let F2 = (D.files c.write_one.new.disk).pkg in
    let P = WhileMoved value place old to F0 in
    let T = Torn (2 + place) (c.slot_unit.result ∷ []) in
    let keeps : KeepsStore F0 value = (quiet (D.files c.args.disk.now) (g.met.D.Disk.as_read c.args.disk.now told)).keeps in
    let some : 0 < old.count = (move_set value place old to can F0 keeps).some in
    let holds : HasUnits F1 to (blocks_of old F0) =
    held_after value place old to can F0 keeps F1 (c.in_ok-copy_blocks.ensures.long told some) (c.in_ok-copy_blocks.ensures.copied told) in
    let both =
    writes_then g.D.Disk g.met.D.Disk.follows_trans {T = Anything} {most = 16 * old.count} c.copy_blocks.ensures.writes c.write_one.ensures.writes
    (omega arith) (λ x y r. tt) (λ x y z r s. tt) in
    crashes_next g.D.Disk told P both
    (crashes_next g.D.Disk told P c.copy_blocks.ensures.writes
    (crashes_while g.D.Disk told P c.copy_blocks.ensures.writes
    (λ from image was same. while_copied value place old to can F0 keeps from.pkg image.pkg (quiet from was) same))
    (crashes_while g.D.Disk told P c.write_one.ensures.writes
    (λ from image was torn. while_slot_moved value place old to can F0 keeps c.slot_unit.result c.slot_unit.ensures F1 F1
    (c.copy_blocks.ensures.writes.changes.pkg told) holds from.pkg image.pkg (c.in_ok-copy_blocks.ensures.durable told from was) torn)))
    (crashes_while g.D.Disk told P c.write_zeros.ensures.writes
    (λ from image was same. inr (while_old_zeroed value place old to can F0 keeps c.slot_unit.result c.slot_unit.ensures F1 F2
    (c.copy_blocks.ensures.writes.changes.pkg told) holds (c.in_ok-write_one.ensures.written told) at n (omega (arith, c.min-at.ensures, c.max.ensures))
    (omega (arith, c.min-at.ensures, c.max.ensures)) from.pkg image.pkg (c.in_ok-write_one.ensures.durable told from was) same)))

pub returns-in_err-copy_blocks-clause-writes : goal.returns-in_err-copy_blocks-clause-writes
returns-in_err-copy_blocks-clause-writes g c =
    writes_failed g.D.Disk (writes_weaker g.D.Disk c.in_err-copy_blocks.ensures.writes (omega arith) (λ x y r. r.no_shorter))

pub returns-in_err-write_one-clause-writes : goal.returns-in_err-write_one-clause-writes
returns-in_err-write_one-clause-writes g c =
    writes_failed g.D.Disk (writes_then g.D.Disk g.met.D.Disk.follows_trans c.copy_blocks.ensures.writes c.in_err-write_one.ensures.writes (omega arith)
    (λ x y r. r.no_shorter) (λ x y z r q. omega (arith, r.no_shorter, q.no_shorter)))

pub returns-clause-writes : goal.returns-clause-writes
returns-clause-writes g c =
    writes_then g.D.Disk g.met.D.Disk.follows_trans
    (writes_then g.D.Disk g.met.D.Disk.follows_trans {T = NoShorter} {most = 16 * c.args.old.count} c.copy_blocks.ensures.writes c.write_one.ensures.writes
    (omega arith) (λ x y r. r.no_shorter) (λ x y z r q. omega (arith, r.no_shorter, q.no_shorter)))
    c.write_zeros.ensures.writes (omega arith) (λ x y r. r) (λ x y z r q. omega (arith, r, q.no_shorter))

pub returns-clause-moved : goal.returns-clause-moved
returns-clause-moved g c =
    let D = g.D.Disk in
    let old = c.args.old in
    let place = c.args.place in
    let to = c.args.to in
    let unit = c.slot_unit.result in
    let at = c.min-at.result in
    let n = end_of old - at in
    let F0 = (D.files c.args.disk.now).pkg in
    let F1 = (D.files c.copy_blocks.new.disk).pkg in
    let F2 = (D.files c.write_one.new.disk).pkg in
    let F3 = (D.files c.write_zeros.new.disk).pkg in
    let low : old.offset ≤ at = omega (arith, c.min-at.ensures, c.max.ensures) in
    let high : at + n ≤ end_of old = omega (arith, c.min-at.ensures, c.max.ensures) in
    map_ok c.write_zeros.result (λ (zeros : IsTrue D.tells → (i : ℕ) → at ≤ i → i < at + n → unit_at F3 i ≡ blank) told.
    let first = c.copy_blocks.ensures.writes.changes.pkg told in
    let second = c.in_ok-write_one.ensures.written told in
    let same = c.write_zeros.ensures.writes.changes.pkg told in
    let holds : (value : Store) → CanMove value place old to → KeepsStore F0 value → HasUnits F1 to (blocks_of old F0) =
    λ value can keeps. held_after value place old to can F0 keeps F1
    (c.in_ok-copy_blocks.ensures.long told (move_set value place old to can F0 keeps).some) (c.in_ok-copy_blocks.ensures.copied told) in
    record {
      stands = λ value can keeps.
          while_old_zeroed value place old to can F0 keeps unit c.slot_unit.ensures F1 F2 first (holds value can keeps) second at n low high F2 F3 refl same;
      quiet = λ value can keeps image here.
          let past = c.write_zeros.ensures.writes.changes.now told image here in
          let third = while_old_zeroed value place old to can F0 keeps unit c.slot_unit.ensures F1 F2 first (holds value can keeps) second at n low high in
          moved_alike value place old to can F0 keeps F3 image.pkg (third F2 F3 refl same)
          (third past.from.pkg image.pkg (c.in_ok-write_one.ensures.durable told past.from past.was) past.pkg);
      zeros = λ i from zeros_from below. zeros told i (omega (arith, c.min-at.ensures, c.max.ensures)) (omega (arith, c.min-at.ensures, c.max.ensures));
      blanks = moved_blank place to old.count at n unit F0 F1 F2 F3 first second same (zeros told);
      reach = λ limit place_ends old_ends new_ends short.
          outside_ends limit at n F2 F3 (omega (arith, c.min-at.ensures)) same
          (unit_ends limit (2 + place) unit F1 F2 (omega arith) second (outside_ends limit to old.count F0 F1 new_ends first short));
    }) c.write_zeros.ensures.zeros
