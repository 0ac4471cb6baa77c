use Rattle.std.proofs.Common.{◌≡◌, ℕ, ◌/◌, IsTrue, length, take, drop, ap, ◌∙◌, arith}
use Rattle.rpm_pkgdb.proofs.Vocabulary.{length-cut_up, slot_units, units_of}
use Rattle.rpm_pkgdb.proofs.OrderLaws.{awaits_less}
use Rattle.rpm_pkgdb.proofs.ReadingLaws.{piece_of_table, reading_more}
use Rattle.rpm_pkgdb.proofs.reading.read_piece.Goals as goal

pub read_units-requires-clause-within : goal.read_units-requires-clause-within
read_units-requires-clause-within g c = λ told.
    omega (arith, c.requires.within told, c.requires.few, c.requires.pages.some, c.len.ensures, c.args.rising.slots.ok.0)

pub add_own-requires-clause-few : goal.add_own-requires-clause-few
add_own-requires-clause-few g c = omega (arith, c.requires.few, c.requires.pages.below, c.read_units.auto.into)

pub add_own-requires-clause-awaits : goal.add_own-requires-clause-awaits
add_own-requires-clause-awaits g c =
    awaits_less _ _ c.args.pages c.args.pages c.args.rising (omega (arith, c.read_units.auto.into)) (omega arith) c.requires.awaits

pub add_own-requires-clause-numbered : goal.add_own-requires-clause-numbered
add_own-requires-clause-numbered g c = c.requires.read.numbered

pub returns-clause-read : goal.returns-clause-read
returns-clause-read g c =
    let Told = IsTrue g.D.Disk.tells in
    let pages = c.args.pages in
    let file = (g.D.Disk.files c.args.disk.now).pkg in
    let old = c.args.rising.slots.items in
    let n = length c.args.bytes.now / 16 in
    let bytes = c.read_units.new.into in
    let long : length (units_of bytes) ≡ n = length-cut_up (length bytes / 16) bytes ∙ ap (λ (m : ℕ). m / 16) c.read_units.auto.into in
    let come : Told → units_of bytes ≡ take n (drop (length old) (slot_units pages file)) = λ told.
    c.in_ok-read_units.ensures.units told
    ∙ ap (λ (m : ℕ). take n (drop m file)) (omega (arith, c.len.ensures, c.args.rising.slots.ok.0))
    ∙ piece_of_table pages (length old) n file (omega (arith, c.requires.few)) in
    reading_more Told pages c.args.units (slot_units pages file) old c.requires.read n (units_of bytes) long come c.add_own.result c.add_own.ensures.adds
    c.add_own.ensures.numbered
