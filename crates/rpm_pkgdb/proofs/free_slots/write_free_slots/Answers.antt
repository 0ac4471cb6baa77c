use Rattle.std.proofs.Common.{ℕ, ◌*◌, ◌≡◌, length, take, arith, sym, subst, ap}
use Rattle.rpm_pkgdb.proofs.Vocabulary.{free, IsSlotUnit, length-put, SameOutside, Torn, unit_at, Units, units_of}
use Rattle.rpm_pkgdb.proofs.Changing.{on_ok, writes_weaker, writes_then, writes_failed}
use Rattle.rpm_pkgdb.proofs.ClearLaws.{torn_outside}
use Rattle.rpm_pkgdb.proofs.FreePages.{front_count, slots_written}
use Rattle.rpm_pkgdb.proofs.free_slots.write_free_slots.Goals as goal

within : (at count : ℕ) (us : Units) → length us ≡ count → (x y : Units) → Torn at us x y → SameOutside at count x y
within at count us n x y torn = subst (λ (m : ℕ). SameOutside at m x y) n (torn_outside at us x y torn)

pub returns-clause-slots : goal.returns-clause-slots
returns-clause-slots g c = on_ok c.sync_pkg.result (λ told i low high.
    let D = g.D.Disk in
    subst (λ (u : Units). IsSlotUnit (unit_at u i) free) (sym (c.sync_pkg.ensures.writes.changes.pkg told))
    (slots_written c.copy_units.new.into c.args.count c.copy_units.auto.into c.requires.few c.slot_unit-units.result c.slot_unit-units.ensures
    c.copy_units.ensures c.args.at (D.files c.args.disk.now).pkg (D.files c.write_units.new.disk).pkg (c.in_ok-write_units.ensures.written told) i low high))

pub returns-in_err-write_units-clause-writes : goal.returns-in_err-write_units-clause-writes
returns-in_err-write_units-clause-writes g c =
    let page = c.copy_units.new.into in
    let n = front_count page c.args.count c.copy_units.auto.into c.requires.few in
    writes_failed g.D.Disk (writes_weaker g.D.Disk c.in_err-write_units.ensures.writes (omega arith)
    (within c.args.at c.args.count (units_of (take (16 * c.args.count) page)) n))

pub returns-clause-writes : goal.returns-clause-writes
returns-clause-writes g c =
    let page = c.copy_units.new.into in
    let n = front_count page c.args.count c.copy_units.auto.into c.requires.few in
    let one = within c.args.at c.args.count (units_of (take (16 * c.args.count) page)) n in
    writes_then g.D.Disk g.met.D.Disk.follows_trans c.write_units.ensures.writes c.sync_pkg.ensures.writes (omega arith) one
    (λ x y z torn same. subst (SameOutside c.args.at c.args.count x) (sym same) (one x y torn))

pub returns-clause-long : goal.returns-clause-long
returns-clause-long g c = on_ok c.sync_pkg.result (λ told.
    let page = c.copy_units.new.into in
    let n = front_count page c.args.count c.copy_units.auto.into c.requires.few in
    omega (
      arith,
      ap length (c.sync_pkg.ensures.writes.changes.pkg told),
      ap length (c.in_ok-write_units.ensures.written told),
      n,
      length-put c.args.at (units_of (take (16 * c.args.count) page)) (g.D.Disk.files c.args.disk.now).pkg,
    ))
