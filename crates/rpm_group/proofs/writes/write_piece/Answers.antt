use Rattle.std.proofs.Common.{◌≡◌, ℕ, ◌+◌, ◌/◌, List, length, ap, ◌∙◌, arith}
use Rattle.rpm_group.proofs.Vocabulary.{file_of, Files, length-cut_up, with_units, Units, units_of, with_file, write_leaves}
use Rattle.rpm_group.proofs.Gathered.{gathered_units}
use Rattle.rpm_group.proofs.writes.write_piece.Goals as goal

long : (at n : ℕ) (bytes : List ℕ) → length bytes ≡ n → at + length (units_of bytes) ≡ at + n / 16
long at n bytes is = omega (arith, length-cut_up (length bytes / 16) bytes, ap (λ (k : ℕ). k / 16) is)

pub returns-in_err-write_at-clause-images : goal.returns-in_err-write_at-clause-images
returns-in_err-write_at-clause-images g c = λ told.
    let D = g.D.Disk in
    let bytes = c.lay.new.into in
    write_leaves D c.args.file c.args.at (units_of bytes) (c.args.at + length c.args.bytes.now / 16) c.args.disk.now c.write_at.new.self
    (long c.args.at (length c.args.bytes.now) bytes c.lay.auto.into) (c.in_err-write_at.ensures.images told) (c.in_err-write_at.ensures.time told)

pub returns-clause-images : goal.returns-clause-images
returns-clause-images g c = λ told.
    let D = g.D.Disk in
    let bytes = c.lay.new.into in
    write_leaves D c.args.file c.args.at (units_of bytes) (c.args.at + length c.args.bytes.now / 16) c.args.disk.now c.write_at.new.self
    (long c.args.at (length c.args.bytes.now) bytes c.lay.auto.into) (c.in_ok-write_at.ensures.images told) (c.in_ok-write_at.ensures.time told)

pub returns-clause-written : goal.returns-clause-written
returns-clause-written g c = λ told.
    let old : Files = g.D.Disk.files c.args.disk.now in
    let n = length c.args.bytes.now / 16 in
    let bytes = c.lay.new.into in
    c.in_ok-write_at.ensures.written told
    ∙ ap (λ (us : Units). with_file c.args.file (with_units c.args.at us (file_of c.args.file old)) old)
    (gathered_units c.args.table.now.items c.args.from n c.args.bytes.now bytes (omega (arith, ap (λ (k : ℕ). k / 16) c.lay.auto.into)) c.lay.auto.into
    c.requires.held c.lay.ensures)
