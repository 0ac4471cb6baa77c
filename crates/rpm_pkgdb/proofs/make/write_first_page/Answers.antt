use Rattle.std.proofs.Common.{◌≡◌, ℕ, ◌+◌, ◌<◌, ◌≤◌, IsTrue, length, ap, ◌∙◌, arith}
use Rattle.rpm_pkgdb.proofs.Vocabulary.{cut_up_one, free, IsSlotUnit, with_units, SameOutside, Torn, unit_at, Units, units_of, word}
use Rattle.rpm_pkgdb.proofs.Changing.{both_ok, writes_weaker, writes_then, writes_failed}
use Rattle.rpm_pkgdb.proofs.ClearLaws.{torn_outside, outside_then, outside_wider, put_here}
use Rattle.rpm_pkgdb.proofs.make.write_first_page.Goals as goal

-- the write of unit 1
first_unit : (us x y : Units) → length us ≡ 1 → Torn 1 us x y → SameOutside 1 255 x y
first_unit us x y one torn = outside_wider 1 (length us) 1 255 x y (omega arith) (omega (arith, one)) (torn_outside 1 us x y torn)

-- and of the slots after it
then_slots : (x y z : Units) → SameOutside 1 255 x y → SameOutside 2 254 y z → SameOutside 1 255 x z
then_slots x y z one two = outside_then 1 255 x y z one (outside_wider 2 254 1 255 y z (omega arith) (omega arith) two)

pub returns-in_err-write_units-clause-writes : goal.returns-in_err-write_units-clause-writes
returns-in_err-write_units-clause-writes g c =
    let us = units_of c.next_unit.result in
    writes_failed g.D.Disk (writes_weaker g.D.Disk c.in_err-write_units.ensures.writes (omega arith)
    (λ x y torn. first_unit us x y (ap length (cut_up_one c.next_unit.result (omega arith))) torn))

pub returns-clause-writes : goal.returns-clause-writes
returns-clause-writes g c =
    let one : (x y : Units) → Torn 1 (units_of c.next_unit.result) x y → SameOutside 1 255 x y =
    λ x y torn. first_unit (units_of c.next_unit.result) x y (ap length (cut_up_one c.next_unit.result (omega arith))) torn in
    writes_then g.D.Disk g.met.D.Disk.follows_trans c.write_units.ensures.writes c.write_free_slots.ensures.writes (omega arith) one
    (λ x y z torn rest. then_slots x y z (one x y torn) rest)

pub returns-clause-page : goal.returns-clause-page
returns-clause-page g c =
    let D = g.D.Disk in
    let a = (D.files c.args.disk.now).pkg in
    let d = (D.files c.write_free_slots.new.disk).pkg in
    both_ok c.write_free_slots.result
    (λ (slots : IsTrue D.tells → (i : ℕ) → 2 ≤ i → i < 2 + 254 → IsSlotUnit (unit_at d i) free) (long : IsTrue D.tells → 2 + 254 ≤ length d) told.
    let unit = c.next_unit.result in
    let here : unit_at d 1 ≡ unit =
    (c.write_free_slots.ensures.writes.changes.pkg told).below 1 (omega arith) ∙ ap (λ (u : Units). unit_at u 1) (c.in_ok-write_units.ensures.written told)
    ∙ ap (λ (us : Units). unit_at (with_units 1 us a) 1) (cut_up_one unit (omega arith)) ∙ put_here 1 unit a in
    record {
      long = omega (arith, long told);
      next = here ∙ c.next_unit.ensures.bytes;
      field = ap (word 0) here ∙ c.next_unit.ensures.word;
      slots = λ i low high. slots told i low (omega (arith, high));
    }) c.write_free_slots.ensures.slots c.write_free_slots.ensures.long
