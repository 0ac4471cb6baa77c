use Rattle.std.proofs.Common.{◌≡◌, ℕ, ◌+◌, ◌/◌, IsTrue, List, length, ap, arith}
use Rattle.rpm_group.proofs.Vocabulary.{changed_after_look, CrashChanges, length-cut_up, units_of, write_leaves}
use Rattle.rpm_group.proofs.recovery.copy_piece.Given.{Over}
use Rattle.rpm_group.proofs.recovery.copy_piece.Goals.{After-write_at}
use Rattle.rpm_group.proofs.recovery.copy_piece.Goals as goal

long : (at n : ℕ) (bytes : List ℕ) → length bytes ≡ n → at + length (units_of bytes) ≡ at + n / 16
long at n bytes is = omega (arith, length-cut_up (length bytes / 16) bytes, ap (λ (k : ℕ). k / 16) is)

piece_changes : (g : Over) (c : After-write_at g) → IsTrue g.D.Disk.tells
    → CrashChanges g.D.Disk c.args.file c.args.at (c.args.at + length c.args.bytes.now / 16) c.args.disk.now c.write_at.new.self
piece_changes g c told =
    let D = g.D.Disk in
    let mid = c.read_at.new.self in
    let bytes = c.read_at.new.into in
    let end = c.args.at + length c.args.bytes.now / 16 in
    changed_after_look D c.args.file c.args.at end c.args.disk.now mid c.write_at.new.self _ _ (c.in_ok-read_at.ensures.untouched told)
    c.in_ok-read_at.ensures.moment
    (write_leaves D c.args.file c.args.at (units_of bytes) end mid c.write_at.new.self
    (long c.args.at (length c.args.bytes.now) bytes c.read_at.auto.into) (c.write_at.ensures.images told) (c.write_at.ensures.time told))

pub returns-in_err-write_at-clause-images : goal.returns-in_err-write_at-clause-images
returns-in_err-write_at-clause-images g c = piece_changes g (goal.at.returns-in_err-write_at-clause-images g c).After-write_at

pub returns-clause-images : goal.returns-clause-images
returns-clause-images g c = piece_changes g (goal.at.returns-clause-images g c).After-write_at
