use Rattle.std.proofs.Common.{length, ap, arith, refl, ◌≡◌, Err}
use Rattle.rpm_pkgdb.proofs.Vocabulary.{DiskFault, Files}
use Rattle.rpm_pkgdb.proofs.Changing.{err_given, reads_failed, reads_or_then}
use Rattle.rpm_pkgdb.proofs.Kept.{lawful, zero_absent}
use Rattle.rpm_pkgdb.proofs.store.PkgDb.read_made.Goals as goal

pub read_unit-requires : goal.read_unit-requires
read_unit-requires g c = λ told.
    let l = lawful c.args.units c.args.head.now c.requires.in_order in
    omega (arith, c.requires.units told, l.inside, l.some)

pub read_table-requires-clause-pages : goal.read_table-requires-clause-pages
read_table-requires-clause-pages g c =
    let l = lawful c.args.units c.args.head.now c.requires.in_order in
    record { some = omega (arith, l.some, c.word-pages.ensures); below = omega (arith, l.below, c.word-pages.ensures) }

pub read_table-requires-clause-within : goal.read_table-requires-clause-within
read_table-requires-clause-within g c = λ told.
    let l = lawful c.args.units c.args.head.now c.requires.in_order in
    let same = (c.read_unit.ensures.reads.looks.untouched told).same in
    let long = ap (λ (f : Files). length f.pkg) same in
    omega (arith, l.inside, c.word-pages.ensures, c.requires.units told)

pub returns-in_err-next-clause-reads : goal.returns-in_err-next-clause-reads
returns-in_err-next-clause-reads g c =
    let l = lawful c.args.units c.args.head.now c.requires.in_order in
    reads_failed g.D.Disk c.in_err-next.ensures.reads (omega (arith, l.some))

pub returns-in_err-table-clause-reads : goal.returns-in_err-table-clause-reads
returns-in_err-table-clause-reads g c =
    let l = lawful c.args.units c.args.head.now c.requires.in_order in
    let given = c.from_residual-in_err-table in
    reads_or_then g.D.Disk g.met.D.Disk.follows_trans c.read_unit.ensures.reads c.read_table.ensures.reads (omega (arith, l.some, c.word-pages.ensures))
    (err_given (λ r. r ≡ Err DiskFault → c.read_table.result ≡ Err DiskFault) _ given.result given.ensures (λ is. cc (c.in_err-table.was)))

pub returns-clause-reads : goal.returns-clause-reads
returns-clause-reads g c =
    let l = lawful c.args.units c.args.head.now c.requires.in_order in
    reads_or_then g.D.Disk g.met.D.Disk.follows_trans c.read_unit.ensures.reads c.read_table.ensures.reads
    (omega (arith, l.some, c.word-pages.ensures)) (λ is. cc)

pub invariant_of-result : goal.invariant_of-result
invariant_of-result g c =
    let l = lawful c.args.units c.args.head.now c.requires.in_order in
    record {
      kept = record {
        places = c.in_ok-table.ensures.indexed.places;
        numbered = c.in_ok-table.ensures.numbered;
        sound = c.in_ok-table.ensures.placed;
        limit = omega (arith, l.below, c.word-pages.ensures);
        count = c.in_ok-table.ensures.count;
      };
      blank = λ none. absurd (omega (arith, l.some, c.word-pages.ensures));
      used = refl;
      room = omega arith;
      one = omega arith;
      taken = c.in_ok-table.ensures.indexed.taken;
    }

pub returns-clause-from_one : goal.returns-clause-from_one
returns-clause-from_one g c = zero_absent c.in_ok-table.table.slots.items c.in_ok-table.ensures.numbered
