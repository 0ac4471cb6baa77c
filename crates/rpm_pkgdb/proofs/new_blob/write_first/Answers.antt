use Rattle.std.proofs.Common.{◌≡◌, ℕ, Option, IfSome, length, sym, subst, arith}
use Rattle.rpm_pkgdb.proofs.Vocabulary.{BlobTorn, blocks_for, FieldTorn, next_field, next_unit, unit_at, Units}
use Rattle.rpm_pkgdb.proofs.Changing.{on_ok, writes_weaker, writes_then, writes_failed}
use Rattle.rpm_pkgdb.proofs.FieldLaws.{blocks_torn, then_field}
use Rattle.rpm_pkgdb.proofs.new_blob.write_first.Goals as goal

pub returns-in_err-write_blob-clause-writes : goal.returns-in_err-write_blob-clause-writes
returns-in_err-write_blob-clause-writes g c =
    let f = next_field c.args.target.now in
    writes_failed g.D.Disk (writes_weaker g.D.Disk c.in_err-write_blob.ensures.writes (omega arith) (blocks_torn c.args.target.now.start (blocks_for
    (length c.args.blob.now)) f))

pub returns-in_err-write_field-clause-writes : goal.returns-in_err-write_field-clause-writes
returns-in_err-write_field-clause-writes g c =
    let at = c.args.target.now.start in
    let n = blocks_for (length c.args.blob.now) in
    let f = next_field c.args.target.now in
    writes_failed g.D.Disk (writes_then g.D.Disk g.met.D.Disk.follows_trans c.write_blob.ensures.writes c.in_err-write_field.ensures.writes (omega arith)
    (blocks_torn at n f)
    (λ x y z same torn. then_field at n f x y z same (subst (λ (o : Option ℕ). FieldTorn o y z) c.next_field.ensures torn)))

pub returns-clause-writes : goal.returns-clause-writes
returns-clause-writes g c =
    let at = c.args.target.now.start in
    let n = blocks_for (length c.args.blob.now) in
    let f = next_field c.args.target.now in
    writes_then g.D.Disk g.met.D.Disk.follows_trans
    (writes_then g.D.Disk g.met.D.Disk.follows_trans {T = BlobTorn at n f} {most = 0} c.write_blob.ensures.writes c.write_field.ensures.writes (omega arith)
    (blocks_torn at n f) (λ x y z same torn. then_field at n f x y z same (subst (λ (o : Option ℕ). FieldTorn o y z) c.next_field.ensures torn)))
    c.sync_pkg.ensures.writes (omega arith) (λ x y r. r) (λ x y z r same. subst (BlobTorn at n f x) (sym same) r)

pub returns-clause-next : goal.returns-clause-next
returns-clause-next g c = on_ok c.sync_pkg.result (λ told.
    let D = g.D.Disk in
    let mid = (D.files c.write_field.new.disk).pkg in
    let new = (D.files c.sync_pkg.new.disk).pkg in
    let same : new ≡ mid = c.sync_pkg.ensures.writes.changes.pkg told in
    subst (λ (o : Option ℕ). IfSome o (λ n. unit_at new 1 ≡ next_unit n)) c.next_field.ensures
    (subst (λ (u : Units). IfSome c.next_field.result (λ n. unit_at u 1 ≡ next_unit n)) (sym same) (c.in_ok-write_field.ensures.bytes told)))
