use Rattle.std.proofs.Common.{◌≡◌, ℕ, ◌-◌, ◌*◌, ◌^◌, IsTrue, length, None, sym, ap, ◌∙◌, subst, arith}
use Rattle.rpm_pkgdb.proofs.Vocabulary.{AreSound, fault_of, AreSlotsRead, OpenFault, DamageIs, SaysHere, slots_in, Table, slot_units, table_fault}
use Rattle.rpm_pkgdb.proofs.ReadingLaws.{table_count, read_bounded, read_count, read_few, read_fault, read_placed, read_whole, no_meeting, says_whole, ok_with, on_ok, err_gives}
use Rattle.rpm_pkgdb.proofs.table.read_table.Goals as goal

pub table_read-requires-clause-right : goal.table_read-requires-clause-right
table_read-requires-clause-right g c =
    let read = c.in_ok-reading.ensures.read in
    record {
      few = omega (arith, read_few _ _ _ _ _ c.in_ok-reading.reading read, c.requires.pages.below);
      bounded = read_bounded _ _ _ _ _ read.slots;
      numbered = read.slots.numbered;
    }

pub returns-clause-count : goal.returns-clause-count
returns-clause-count g c =
    let r = c.in_ok-reading.reading in
    ok_with (λ (t : Table). t.slots.items ≡ r.rising.slots.items) (λ (t : Table). length t.slots.items ≡ 256 * c.args.pages - 2) (r.reason ≡ None)
    c.table_read.result
    (λ t same none. ap length same ∙ read_count _ _ _ _ _ r c.in_ok-reading.ensures.read none) c.table_read.ensures.slots c.table_read.ensures.all

pub returns-clause-placed : goal.returns-clause-placed
returns-clause-placed g c =
    let r = c.in_ok-reading.reading in
    ok_with (λ (t : Table). t.slots.items ≡ r.rising.slots.items) (λ (t : Table). AreSound c.args.pages (2 ^ 28) t.slots.items) (fault_of r ≡ None)
    c.table_read.result
    (λ t same none. subst (AreSound c.args.pages (2 ^ 28)) (sym same)
    (read_placed _ c.args.pages _ _ r.rising.slots.items c.in_ok-reading.ensures.read.slots (no_meeting r none))) c.table_read.ensures.slots
    c.table_read.ensures.sound

pub returns-clause-slots : goal.returns-clause-slots
returns-clause-slots g c =
    let r = c.in_ok-reading.reading in
    let pages = c.args.pages in
    let file = (g.D.Disk.files c.args.disk.now).pkg in
    let is = c.in_ok-reading.ensures.read in
    ok_with (λ (t : Table). t.slots.items ≡ r.rising.slots.items) (λ (t : Table). IsTrue g.D.Disk.tells → t.slots.items ≡ slots_in (slot_units pages file))
    (r.reason ≡ None)
    c.table_read.result (λ t same none told.
    let long : length r.rising.slots.items ≡ length (slot_units pages file) =
    read_count _ _ _ _ _ r is none ∙ sym (table_count pages file (c.requires.within told)) in
    same ∙ is.slots.slots_are ∙ ap slots_in (read_whole _ _ _ _ _ is.slots told long)) c.table_read.ensures.slots c.table_read.ensures.all

pub returns-clause-sound : goal.returns-clause-sound
returns-clause-sound g c =
    let r = c.in_ok-reading.reading in
    let Told = IsTrue g.D.Disk.tells in
    let pages = c.args.pages in
    let file = (g.D.Disk.files c.args.disk.now).pkg in
    on_ok (fault_of r ≡ None) (Told → table_fault pages c.args.units (slot_units pages file) ≡ None) c.table_read.result (λ none told.
    read_fault Told pages c.args.units (slot_units pages file) r (subst (λ (n : ℕ). AreSlotsRead Told pages c.args.units (slot_units pages file) n r)
    (sym (table_count pages file (c.requires.within told))) c.in_ok-reading.ensures.read) told ∙ none) c.table_read.ensures.sound

pub returns-clause-says : goal.returns-clause-says
returns-clause-says g c =
    let r = c.in_ok-reading.reading in
    let Told = IsTrue g.D.Disk.tells in
    let pages = c.args.pages in
    let file = (g.D.Disk.files c.args.disk.now).pkg in
    err_gives (λ (e : OpenFault). SaysHere e (fault_of r)) (λ (e : OpenFault). Told → DamageIs e (table_fault pages c.args.units (slot_units pages file)))
    c.table_read.result (λ e says. says_whole Told (fault_of r) (table_fault pages c.args.units (slot_units pages file)) e (λ told.
    read_fault Told pages c.args.units (slot_units pages file) r (subst (λ (n : ℕ). AreSlotsRead Told pages c.args.units (slot_units pages file) n r)
    (sym (table_count pages file (c.requires.within told))) c.in_ok-reading.ensures.read) told) says) c.table_read.ensures.says
