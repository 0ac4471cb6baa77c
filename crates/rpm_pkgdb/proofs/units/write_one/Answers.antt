use Rattle.std.proofs.Common.{◌≡◌, [], ◌∷◌, sym, subst, ap, ◌∙◌, arith}
use Rattle.rpm_pkgdb.proofs.Vocabulary.{cut_up_one, with_units, Torn, Units, units_of}
use Rattle.rpm_pkgdb.proofs.Changing.{on_ok, writes_failed, writes_then, writes_weaker}
use Rattle.rpm_pkgdb.proofs.units.write_one.Goals as goal

pub returns-clause-writes : goal.returns-clause-writes
returns-clause-writes g c =
    let unit = c.args.unit.now in
    let e : units_of unit ≡ unit ∷ [] = cut_up_one unit c.told-unit in
    let T = Torn c.args.at (unit ∷ []) in
    writes_then g.D.Disk g.met.D.Disk.follows_trans c.write_units.ensures.writes c.sync_pkg.ensures.writes (omega arith)
    (λ x y r. subst (λ (us : Units). Torn c.args.at us x y) e r)
    (λ x y z r same. subst (T x) (sym same) (subst (λ (us : Units). Torn c.args.at us x y) e r))

pub returns-in_err-write_units-clause-writes : goal.returns-in_err-write_units-clause-writes
returns-in_err-write_units-clause-writes g c =
    let unit = c.args.unit.now in
    let e : units_of unit ≡ unit ∷ [] = cut_up_one unit c.told-unit in
    writes_weaker g.D.Disk (writes_failed g.D.Disk c.in_err-write_units.ensures.writes) (omega arith)
    (λ x y r. subst (λ (us : Units). Torn c.args.at us x y) e r)

pub returns-clause-written : goal.returns-clause-written
returns-clause-written g c = on_ok c.sync_pkg.result (λ told.
    let unit = c.args.unit.now in
    let e : units_of unit ≡ unit ∷ [] = cut_up_one unit c.told-unit in
    c.sync_pkg.ensures.writes.changes.pkg told
    ∙ (c.in_ok-write_units.ensures.written told ∙ ap (λ (us : Units). with_units c.args.at us (g.D.Disk.files c.args.disk.now).pkg) e))
