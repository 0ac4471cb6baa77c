use Rattle.std.proofs.Common.{◌≡◌, ℕ, ◌/◌, [], List, length, sym, ap, ◌∙◌, subst, arith}
use Rattle.std.proofs.lemmas.List.{nil_from_length}
use Rattle.std.proofs.lemmas.Bool.Decides.{nat_tests}
use Rattle.rpm_pkgdb.proofs.Vocabulary.{length-cut_up, with_units, SameOutside, Units, units_of}
use Rattle.rpm_pkgdb.proofs.Changing.{writes_weaker}
use Rattle.rpm_pkgdb.proofs.ClearLaws.{torn_outside}
use Rattle.rpm_pkgdb.proofs.PutParts.{put_nothing}
use Rattle.rpm_pkgdb.proofs.new_blob.write_some.Goals as goal

empty_units : (bytes : List ℕ) → length bytes ≡ 0 → units_of bytes ≡ []
empty_units bytes none = nil_from_length (units_of bytes) (omega (arith, length-cut_up (length bytes / 16) bytes))

pub returns-then-is_empty-clause-written : goal.returns-then-is_empty-clause-written
returns-then-is_empty-clause-written g c = λ told.
    let file = (g.D.Disk.files c.args.disk.now).pkg in
    let none : length c.args.bytes.now ≡ 0 = grind (arith, nat_tests) in
    sym (ap (λ (us : Units). with_units c.args.at us file) (empty_units c.args.bytes.now none) ∙ put_nothing c.args.at file (c.requires.inside told))

pub returns-clause-writes : goal.returns-clause-writes
returns-clause-writes g c =
    let us = units_of c.args.bytes.now in
    let n : length us ≡ length c.args.bytes.now / 16 = length-cut_up (length c.args.bytes.now / 16) c.args.bytes.now in
    writes_weaker g.D.Disk c.write_units.ensures.writes (omega arith)
    (λ x y torn. subst (λ (m : ℕ). SameOutside c.args.at m x y) n (torn_outside c.args.at us x y torn))
