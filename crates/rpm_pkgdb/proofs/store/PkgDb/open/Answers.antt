use Rattle.std.proofs.Common.{◌≡◌, Result, Err, sym, ap, subst, ◌∙◌, arith, IsTrue}
use Rattle.rpm_pkgdb.proofs.Vocabulary.{Damage, Files, OpenIs, Pkg, read_same, ReadsOnly, Store, store, store_of_pages, unit_at, word}
use Rattle.rpm_pkgdb.proofs.Changing.{reads_then, reads_or_then}
use Rattle.rpm_pkgdb.proofs.Kept.{lawful}
use Rattle.rpm_pkgdb.proofs.Opens.{store_empty, store_blank, store_damaged, store_made, ok_keeps, blank_opens, blank_keeps, opening_cost_least, opening_cost_made}
use Rattle.rpm_pkgdb.proofs.store.PkgDb.open.Goals as goal

pub returns-then-units-eq0-clause-store : goal.returns-then-units-eq0-clause-store
returns-then-units-eq0-clause-store g c = λ told.
    let file = (g.D.Disk.files c.args.disk.now).pkg in
    blank_opens file c.blank.result c.blank.ensures.blank c.blank.ensures.err (store_empty file (sym (c.in_ok-units.ensures.length told) ∙ c.if-units-eq0.true))

pub returns-then-is_zeros-clause-store : goal.returns-then-is_zeros-clause-store
returns-then-is_zeros-clause-store g c = λ told.
    let file = (g.D.Disk.files c.args.disk.now).pkg in
    let head : c.in_ok-head.head ≡ unit_at file 0 =
    c.in_ok-head.ensures.unit told ∙ ap (λ (f : Files). unit_at f.pkg 0) (c.in_ok-units.ensures.untouched told).same in
    blank_opens file c.blank-then-is_zeros.result c.blank-then-is_zeros.ensures.blank c.blank-then-is_zeros.ensures.err
    (store_blank file c.in_ok-units.units c.in_ok-head.head (c.in_ok-units.ensures.length told) head (sym c.if-is_zeros.ensures))

pub returns-in-Some-clause-store : goal.returns-in-Some-clause-store
returns-in-Some-clause-store g c = λ told.
    let file = (g.D.Disk.files c.args.disk.now).pkg in
    let head : c.in_ok-head.head ≡ unit_at file 0 =
    c.in_ok-head.ensures.unit told ∙ ap (λ (f : Files). unit_at f.pkg 0) (c.in_ok-units.ensures.untouched told).same in
    store_damaged file c.in_ok-units.units c.in_ok-head.head (c.in_ok-units.ensures.length told) head (sym c.if-is_zeros.ensures) c.in-Some.reason
    (sym c.in-Some.ensures) ∙ ap Err (sym c.damage_at.ensures)

pub returns-clause-store : goal.returns-clause-store
returns-clause-store g c = λ told.
    let file = (g.D.Disk.files c.args.disk.now).pkg in
    let same = (c.in_ok-units.ensures.untouched told).same in
    let after = (c.in_ok-head.ensures.reads.looks.untouched told).same in
    let head : c.in_ok-head.head ≡ unit_at file 0 = c.in_ok-head.ensures.unit told ∙ ap (λ (f : Files). unit_at f.pkg 0) same in
    let is =
    store_made file c.in_ok-units.units c.in_ok-head.head (c.in_ok-units.ensures.length told) head (sym c.if-is_zeros.ensures)
    (sym c.in_default.ensures) in
    subst (λ (r : Result Store Damage). OpenIs r c.read_made.result) (sym is)
    (subst (λ (f : Files). OpenIs (store_of_pages (word 3 c.in_ok-head.head) f.pkg) c.read_made.result) (after ∙ same) (c.read_made.ensures.store told))

pub returns-clause-reads : goal.returns-clause-reads
returns-clause-reads g c =
    let l = lawful c.in_ok-units.units c.in_ok-head.head (sym c.in_default.ensures) in
    let asked : ReadsOnly g.D.Disk Pkg 0 c.len.result c.args.disk.now c.len.new.self = record {
      looks = record {
        untouched = c.in_ok-units.ensures.untouched;
        moment_stays = c.in_ok-units.ensures.moment;
        reads = read_same Pkg 0 (g.D.Disk.bytes_read c.args.disk.now) (g.D.Disk.bytes_read c.len.new.self) c.in_ok-units.ensures.reads;
        goes_on = c.in_ok-units.ensures.follows;
      };
      cause = c.len.ensures.cause;
    } in
    reads_or_then g.D.Disk g.met.D.Disk.follows_trans
    (reads_then g.D.Disk g.met.D.Disk.follows_trans {most = 16} asked c.in_ok-head.ensures.reads (omega arith)) c.read_made.ensures.reads
    (omega (arith, l.below)) (λ is. is)

pub returns-then-units-eq0-clause-kept : goal.returns-then-units-eq0-clause-kept
returns-then-units-eq0-clause-kept g c = blank_keeps (IsTrue g.D.Disk.tells) (g.D.Disk.files c.len.new.self).pkg c.blank.result c.blank.ensures.blank (λ told.
    let file = (g.D.Disk.files c.args.disk.now).pkg in
    ap (λ (f : Files). store f.pkg) (c.in_ok-units.ensures.untouched told).same ∙ store_empty file (sym (c.in_ok-units.ensures.length told) ∙
    c.if-units-eq0.true))

pub returns-then-is_zeros-clause-kept : goal.returns-then-is_zeros-clause-kept
returns-then-is_zeros-clause-kept g c =
    blank_keeps (IsTrue g.D.Disk.tells) (g.D.Disk.files c.read_unit.new.disk).pkg c.blank-then-is_zeros.result c.blank-then-is_zeros.ensures.blank (λ told.
    let file = (g.D.Disk.files c.args.disk.now).pkg in
    let head : c.in_ok-head.head ≡ unit_at file 0 =
    c.in_ok-head.ensures.unit told ∙ ap (λ (f : Files). unit_at f.pkg 0) (c.in_ok-units.ensures.untouched told).same in
    ap (λ (f : Files). store f.pkg) ((c.in_ok-head.ensures.reads.looks.untouched told).same ∙ (c.in_ok-units.ensures.untouched told).same)
    ∙ store_blank file c.in_ok-units.units c.in_ok-head.head (c.in_ok-units.ensures.length told) head (sym c.if-is_zeros.ensures))

pub returns-clause-kept : goal.returns-clause-kept
returns-clause-kept g c = ok_keeps (IsTrue g.D.Disk.tells) _ c.read_made.result (λ told.
    let same = ((returns-clause-reads g c).looks.untouched told).same in
    subst (λ (f : Files). OpenIs (store f.pkg) c.read_made.result) (sym same) (returns-clause-store g c told)) c.read_made.ensures.fresh

pub returns-in_err-head-clause-cost : goal.returns-in_err-head-clause-cost
returns-in_err-head-clause-cost g c = λ told.
    omega (arith, c.in_ok-units.ensures.reads Pkg, c.read_unit.ensures.reads.looks.reads.pkg, opening_cost_least (g.D.Disk.files c.args.disk.now).pkg)

pub returns-clause-cost : goal.returns-clause-cost
returns-clause-cost g c = λ told.
    let file = (g.D.Disk.files c.args.disk.now).pkg in
    let head : c.in_ok-head.head ≡ unit_at file 0 =
    c.in_ok-head.ensures.unit told ∙ ap (λ (f : Files). unit_at f.pkg 0) (c.in_ok-units.ensures.untouched told).same in
    let cost =
    opening_cost_made file c.in_ok-units.units c.in_ok-head.head (c.in_ok-units.ensures.length told) head (sym c.if-is_zeros.ensures)
    (sym c.in_default.ensures) in
    let l = lawful c.in_ok-units.units c.in_ok-head.head (sym c.in_default.ensures) in
    omega (arith, l.some, c.in_ok-units.ensures.reads Pkg, c.read_unit.ensures.reads.looks.reads.pkg, c.read_made.ensures.reads.looks.reads.pkg)
