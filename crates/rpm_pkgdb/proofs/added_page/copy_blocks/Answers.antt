use Rattle.std.proofs.Common.{◌≡◌, ℕ, ◌+◌, ◌*◌, ◌/◌, ◌≤◌, length, take, drop, sym, ap, subst, ◌∙◌, arith}
use Rattle.rpm_pkgdb.proofs.Vocabulary.{Files, length-cut_up, SameOutside, unit_at, Units, units_of}
use Rattle.std.proofs.lemmas.List.{length-take}
use Rattle.rpm_pkgdb.proofs.ClearLaws.{outside_refl, outside_then}
use Rattle.rpm_pkgdb.proofs.Changing.{on_ok, writes_reads, writes_then, writes_failed}
use Rattle.rpm_pkgdb.proofs.CopyParts.{part_count, copied_more, longer_more, part_within}
use Rattle.rpm_pkgdb.proofs.added_page.copy_blocks.Goals as goal

pub returns-in_err-write_units-clause-writes : goal.returns-in_err-write_units-clause-writes
returns-in_err-write_units-clause-writes g c =
    let l = c.loop-done in
    let to = c.args.to in
    let count = c.args.count in
    let some = c.min-some.result in
    let us = units_of c.read_units.new.into in
    let small : some ≤ 256 = omega (arith, c.min-some.ensures) in
    let le : l.done + some ≤ count = omega (arith, c.min-some.ensures, l.invariant.to_end) in
    let n : length (take (16 * some) l.page) / 16 ≡ some = part_count some l.page c.min-some.array_long small in
    let part : length c.read_units.new.into ≡ length (take (16 * some) l.page) = c.read_units.auto.into in
    let few : length us ≤ some = omega (arith, length-cut_up (length c.read_units.new.into / 16) c.read_units.new.into, part, n) in
    writes_failed g.D.Disk (writes_then g.D.Disk g.met.D.Disk.follows_trans
    (writes_then g.D.Disk g.met.D.Disk.follows_trans {T = SameOutside to count} {most = 16 * count} l.invariant.writes
    (writes_reads g.D.Disk c.read_units.ensures.reads (outside_refl to count)) (omega (arith, length-take (16 * some) l.page)) (λ x y r. r)
    (outside_then to count))
    c.in_err-write_units.ensures.writes (omega arith) (λ x y r. r)
    (λ x y z r torn. outside_then to count x y z r (part_within to count l.done some us y z few le torn)))

pub loop-done-preserved : goal.loop-done-preserved
loop-done-preserved g c =
    let D = g.D.Disk in
    let l = c.loop-done in
    let to = c.args.to in
    let from = c.args.from in
    let count = c.args.count in
    let some = c.min-some.result in
    let us = units_of c.read_units.new.into in
    let small : some ≤ 256 = omega (arith, c.min-some.ensures) in
    let le : l.done + some ≤ count = omega (arith, c.min-some.ensures, l.invariant.to_end) in
    let n : length (take (16 * some) l.page) / 16 ≡ some = part_count some l.page c.min-some.array_long small in
    let part : length c.read_units.new.into ≡ length (take (16 * some) l.page) = c.read_units.auto.into in
    let few : length us ≤ some = omega (arith, length-cut_up (length c.read_units.new.into / 16) c.read_units.new.into, part, n) in
    let F0 = (D.files c.args.disk.now).pkg in
    let F1 = (D.files l.disk).pkg in
    let F2 = (D.files c.read_units.new.disk).pkg in
    let F3 = (D.files c.write_units.new.disk).pkg in
    record {
      to_end = le;
      copied = λ told.
          let same : F2 ≡ F1 = ap (λ (f : Files). f.pkg) (c.read_units.ensures.reads.looks.untouched told).same in
          let is : us ≡ take some (drop (from + l.done) F1) = c.in_ok-read_units.ensures.units told ∙ ap (λ (k : ℕ). take k (drop (from + l.done) F1)) n in
          copied_more from to count l.done some F0 F1 F2 us c.requires.apart (c.requires.within told) le (l.invariant.writes.changes.pkg told) same is F3
          (c.in_ok-write_units.ensures.written told) (l.invariant.copied told);
      long = λ told any.
          let same : F2 ≡ F1 = ap (λ (f : Files). f.pkg) (c.read_units.ensures.reads.looks.untouched told).same in
          let is : us ≡ take some (drop (from + l.done) F1) = c.in_ok-read_units.ensures.units told ∙ ap (λ (k : ℕ). take k (drop (from + l.done) F1)) n in
          longer_more from to count l.done some F0 F1 F2 us c.requires.apart (c.requires.within told) le (l.invariant.writes.changes.pkg told) same is F3
          (c.in_ok-write_units.ensures.written told);
      writes =
          writes_then g.D.Disk g.met.D.Disk.follows_trans
          (writes_then g.D.Disk g.met.D.Disk.follows_trans {T = SameOutside to count} {most = 16 * (l.done + some)} l.invariant.writes
          (writes_reads g.D.Disk c.read_units.ensures.reads (outside_refl to count)) (omega (arith, length-take (16 * some) l.page)) (λ x y r. r)
          (outside_then to count))
          c.in_ok-write_units.ensures.writes (omega arith) (λ x y r. r)
          (λ x y z r torn. outside_then to count x y z r (part_within to count l.done some us y z few le torn));
    }

pub returns-clause-copied : goal.returns-clause-copied
returns-clause-copied g c = on_ok c.sync_pkg.result (λ told i below.
    ap (λ (us : Units). unit_at us (c.args.to + i)) (c.sync_pkg.ensures.writes.changes.pkg told)
    ∙ c.loop-done.invariant.copied told i (omega (arith, below, c.loop-done-test.false)))

pub returns-clause-long : goal.returns-clause-long
returns-clause-long g c = on_ok c.sync_pkg.result (λ told some.
    omega (
      arith,
      ap length (c.sync_pkg.ensures.writes.changes.pkg told),
      c.loop-done.invariant.long told (omega (arith, some, c.loop-done-test.false)),
      c.loop-done-test.false,
    ))

pub returns-clause-writes : goal.returns-clause-writes
returns-clause-writes g c =
    let S = SameOutside c.args.to c.args.count in
    writes_then g.D.Disk g.met.D.Disk.follows_trans c.loop-done.invariant.writes c.sync_pkg.ensures.writes (omega (arith, c.loop-done.invariant.to_end))
    (λ x y r. r) (λ x y z r same. subst (S x) (sym same) r)

pub returns-in_err-read_units-clause-writes : goal.returns-in_err-read_units-clause-writes
returns-in_err-read_units-clause-writes g c =
    let l = c.loop-done in
    let to = c.args.to in
    let count = c.args.count in
    let some = c.min-some.result in
    let le : l.done + some ≤ count = omega (arith, c.min-some.ensures, l.invariant.to_end) in
    writes_failed g.D.Disk (writes_then g.D.Disk g.met.D.Disk.follows_trans {T = SameOutside to count} {most = 16 * count} l.invariant.writes
    (writes_reads g.D.Disk c.in_err-read_units.ensures.reads (outside_refl to count)) (omega (arith, length-take (16 * some) l.page)) (λ x y r. r)
    (outside_then to count))
