use Rattle.std.proofs.Common.{◌≡◌, ℕ, Bool, if◌then◌else◌, None, Some, IsTrue, IfSome, ◌<◌, ◌≤◌, ◌+◌, [], ◌∷◌, List, length, refl, sym, ap, ◌∙◌, subst, arith}
use Rattle.rpm_pkgdb.proofs.Vocabulary.{After, Anything, blank, blocks_for, end_of, framed_blob, IsSlotUnit, KeepsStore, next_field, next_unit, Slot, slot_for, Target}
use Rattle.rpm_pkgdb.proofs.Vocabulary.{Torn, unit_at, Units, units_of, WhilePut}
use Rattle.rpm_pkgdb.proofs.ClearLaws.{put_elsewhere}
use Rattle.rpm_pkgdb.proofs.FramingLaws.{count-framed}
use Rattle.rpm_pkgdb.proofs.FreedLaws.{blob_aside, put_blank_all}
use Rattle.rpm_pkgdb.proofs.Changing.{map_ok, writes_then, writes_failed, crashes_while, crashes_next}
use Rattle.rpm_pkgdb.proofs.Reaching.{unit_ends, outside_ends, blob_ends}
use Rattle.rpm_pkgdb.proofs.PutsLaws.{while_blob, second_phase, third_phase, stand_alike}
use Rattle.rpm_pkgdb.proofs.new_blob.put_blob.Goals as goal

slot_is : (unit : List ℕ) (target : Target) (s : Slot) → s ≡ slot_for target → IsSlotUnit unit s → IsSlotUnit unit (slot_for target)
slot_is unit target s is says = subst (IsSlotUnit unit) is says

pub returns-in_err-write_first-clause-images : goal.returns-in_err-write_first-clause-images
returns-in_err-write_first-clause-images g c = λ told value can quiet.
    let D = g.D.Disk in
    let target = c.args.target.now in
    let blob = c.args.blob.now in
    let F0 = (D.files c.args.disk.now).pkg in
    crashes_while g.D.Disk told (WhilePut value target c.args.generation blob F0) c.write_first.ensures.writes
    (λ from image was torn. while_blob value target c.args.generation c.args.old blob can F0 from.pkg image.pkg (quiet from was) torn)

pub returns-in_err-write_one-clause-images : goal.returns-in_err-write_one-clause-images
returns-in_err-write_one-clause-images g c = λ told value can quiet.
    let D = g.D.Disk in
    let target = c.args.target.now in
    let blob = c.args.blob.now in
    let F0 = (D.files c.args.disk.now).pkg in
    let F1 = (D.files c.write_first.new.disk).pkg in
    let P = WhilePut value target c.args.generation blob F0 in
    let keeps : KeepsStore F0 value = (quiet (D.files c.args.disk.now) (g.met.D.Disk.as_read c.args.disk.now told)).keeps in
    let is = slot_is c.slot_unit.result target c.slot.result c.slot.ensures c.slot_unit.ensures in
    crashes_next g.D.Disk told P c.write_first.ensures.writes
    (crashes_while g.D.Disk told P c.write_first.ensures.writes
    (λ from image was torn. while_blob value target c.args.generation c.args.old blob can F0 from.pkg image.pkg (quiet from was) torn))
    (crashes_while g.D.Disk told P c.write_one.ensures.writes
    (λ from image was torn. second_phase value target c.args.generation c.args.old blob can c.slot_unit.result is F0 F1 F1 keeps
    (c.in_ok-write_first.ensures.written told) from.pkg image.pkg (c.in_ok-write_first.ensures.durable told from was) torn))

pub returns-clause-images : goal.returns-clause-images
returns-clause-images g c = λ told value can quiet.
    let D = g.D.Disk in
    let target = c.args.target.now in
    let blob = c.args.blob.now in
    let F0 = (D.files c.args.disk.now).pkg in
    let F1 = (D.files c.write_first.new.disk).pkg in
    let F2 = (D.files c.write_one.new.disk).pkg in
    let T = Torn (2 + target.place) (c.slot_unit.result ∷ []) in
    let P = WhilePut value target c.args.generation blob F0 in
    let keeps : KeepsStore F0 value = (quiet (D.files c.args.disk.now) (g.met.D.Disk.as_read c.args.disk.now told)).keeps in
    let is = slot_is c.slot_unit.result target c.slot.result c.slot.ensures c.slot_unit.ensures in
    let both =
    writes_then g.D.Disk g.met.D.Disk.follows_trans {T = Anything} {most = 0} c.write_first.ensures.writes c.write_one.ensures.writes (omega arith)
    (λ x y r. tt) (λ x y z r s. tt) in
    crashes_next g.D.Disk told P both
    (crashes_next g.D.Disk told P c.write_first.ensures.writes
    (crashes_while g.D.Disk told P c.write_first.ensures.writes
    (λ from image was torn. while_blob value target c.args.generation c.args.old blob can F0 from.pkg image.pkg (quiet from was) torn))
    (crashes_while g.D.Disk told P c.write_one.ensures.writes
    (λ from image was torn. second_phase value target c.args.generation c.args.old blob can c.slot_unit.result is F0 F1 F1 keeps
    (c.in_ok-write_first.ensures.written told) from.pkg image.pkg (c.in_ok-write_first.ensures.durable told from was) torn)))
    (crashes_while g.D.Disk told P c.write_zeros.ensures.writes
    (λ from image was same. After (third_phase value target c.args.generation c.args.old blob can c.slot_unit.result is F0 F1 F2 keeps
    (c.in_ok-write_first.ensures.written told) (c.in_ok-write_one.ensures.written told) from.pkg image.pkg
    (c.in_ok-write_one.ensures.durable told from was) same)))

pub returns-clause-writes : goal.returns-clause-writes
returns-clause-writes g c =
    writes_then g.D.Disk g.met.D.Disk.follows_trans
    (writes_then g.D.Disk g.met.D.Disk.follows_trans {T = Anything} {most = 0} c.write_first.ensures.writes c.write_one.ensures.writes (omega arith)
    (λ x y r. tt) (λ x y z r s. tt))
    c.write_zeros.ensures.writes (omega arith) (λ x y r. tt) (λ x y z r s. tt)

pub returns-in_err-write_one-clause-writes : goal.returns-in_err-write_one-clause-writes
returns-in_err-write_one-clause-writes g c =
    writes_failed g.D.Disk (writes_then g.D.Disk g.met.D.Disk.follows_trans c.write_first.ensures.writes c.in_err-write_one.ensures.writes (omega arith) (λ x
    y r. tt)
    (λ x y z r s. tt))

pub returns-clause-put : goal.returns-clause-put
returns-clause-put g c =
    let D = g.D.Disk in
    let target = c.args.target.now in
    let gen = c.args.generation in
    let old = c.args.old in
    let blob = c.args.blob.now in
    let us = units_of (framed_blob target.number gen blob) in
    let unit = c.slot_unit.result in
    let is = slot_is unit target c.slot.result c.slot.ensures c.slot_unit.ensures in
    let F0 = (D.files c.args.disk.now).pkg in
    let F1 = (D.files c.write_first.new.disk).pkg in
    let F2 = (D.files c.write_one.new.disk).pkg in
    let F3 = (D.files c.write_zeros.new.disk).pkg in
    map_ok c.write_zeros.result (λ (zeros : IsTrue D.tells → (i : ℕ) → old.offset ≤ i → i < end_of old → unit_at F3 i ≡ blank) told.
    let first = c.in_ok-write_first.ensures.written told in
    let second = c.in_ok-write_one.ensures.written told in
    let same = c.write_zeros.ensures.writes.changes.pkg told in
    record {
      stands = λ value can keeps. third_phase value target gen old blob can unit is F0 F1 F2 keeps first second F2 F3 refl same;
      quiet = λ value can keeps image here.
          let past = c.write_zeros.ensures.writes.changes.now told image here in
          stand_alike value target gen old blob can F0 F3 image.pkg keeps
          (third_phase value target gen old blob can unit is F0 F1 F2 keeps first second F2 F3 refl same)
          (third_phase value target gen old blob can unit is F0 F1 F2 keeps first second past.from.pkg image.pkg
          (c.in_ok-write_one.ensures.durable told past.from past.was) past.pkg);
      next = λ none.
          let stays : unit_at F3 1 ≡ unit_at F1 1 =
          same.above 1 (omega (arith, ap (λ (s : Slot). s.offset) none, ap (λ (s : Slot). s.count) none))
          ∙ ap (λ (u : Units). unit_at u 1) second ∙ put_elsewhere (2 + target.place) unit F1 1 (omega arith) in
          subst (λ (u : List ℕ). IfSome (next_field target) (λ n. u ≡ next_unit n)) (sym stays) (c.in_ok-write_first.ensures.next told);
      stays = λ start_far old_far not_new.
          same.below 1 (omega (arith, old_far)) ∙ ap (λ (u : Units). unit_at u 1) second ∙ put_elsewhere (2 + target.place) unit F1 1 (omega arith)
          ∙ blob_aside (next_field target) us target.start F0 F1 (ap (λ (b : Bool). if b then Some (target.number + 1) else None) not_new) start_far first;
      zeros = zeros told;
      blanks =
          put_blank_all (next_field target) us target.place target.start (blocks_for (length blob)) old.offset old.count unit F0 F1 F2 F3
          (count-framed target.number gen blob) first second same (zeros told);
      reach = λ limit blob_ends_by place_ends old_ends short.
          outside_ends limit old.offset old.count F2 F3 old_ends same
          (unit_ends limit (2 + target.place) unit F1 F2 (omega arith) second
          (blob_ends limit target.start us (next_field target) F0 F1 (omega (arith, blob_ends_by, count-framed target.number gen blob)) (omega arith) first
          short));
    }) c.write_zeros.ensures.zeros
