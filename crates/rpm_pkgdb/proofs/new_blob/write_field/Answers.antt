use Rattle.std.proofs.Common.{◌≡◌, ℕ, [], ◌∷◌, Option, IfSome, IsTrue, inr, sym, ap, ◌∙◌, subst, arith}
use Rattle.rpm_pkgdb.proofs.Vocabulary.{cut_up_one, FieldTorn, next_unit, with_units, Torn, unit_at, Units, units_of}
use Rattle.rpm_pkgdb.proofs.Changing.{map_ok, writes_weaker}
use Rattle.rpm_pkgdb.proofs.ClearLaws.{put_here}
use Rattle.rpm_pkgdb.proofs.new_blob.write_field.Goals as goal

pub returns-in-Some-clause-writes : goal.returns-in-Some-clause-writes
returns-in-Some-clause-writes g c =
    let unit = c.next_unit.result in
    let e : units_of unit ≡ unit ∷ [] = cut_up_one unit (omega arith) in
    writes_weaker g.D.Disk c.write_units.ensures.writes (omega arith)
    (λ x y torn. subst (λ (o : Option ℕ). FieldTorn o x y) (sym c.in-Some.is)
    (inr (unit, c.next_unit.ensures.word, subst (λ (us : Units). Torn 1 us x y) e torn)))

pub returns-in-Some-clause-bytes : goal.returns-in-Some-clause-bytes
returns-in-Some-clause-bytes g c =
    let D = g.D.Disk in
    let unit = c.next_unit.result in
    let e : units_of unit ≡ unit ∷ [] = cut_up_one unit (omega arith) in
    let old = (D.files c.args.disk.now).pkg in
    let new = (D.files c.write_units.new.disk).pkg in
    map_ok c.write_units.result (λ (written : IsTrue D.tells → new ≡ with_units 1 (units_of unit) old) told.
    subst (λ (o : Option ℕ). IfSome o (λ n. unit_at new 1 ≡ next_unit n)) (sym c.in-Some.is)
    (ap (λ (u : Units). unit_at u 1) (written told) ∙ ap (λ (us : Units). unit_at (with_units 1 us old) 1) e ∙ put_here 1 unit old
    ∙ c.next_unit.ensures.bytes)) c.write_units.ensures.written
