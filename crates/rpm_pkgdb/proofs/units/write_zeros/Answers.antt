use Rattle.std.proofs.Common.{◌≡◌, ℕ, ◌+◌, ◌*◌, ◌/◌, ◌≤◌, length, take, arith}
use Rattle.std.proofs.lemmas.List.{length-take, length-replicate}
use Rattle.rpm_pkgdb.proofs.Vocabulary.{length-cut_up, SameOutside, Torn, Units, units_of}
use Rattle.rpm_pkgdb.proofs.ClearLaws.{torn_outside, outside_then, outside_wider}
use Rattle.rpm_pkgdb.proofs.Changing.{writes_then, writes_failed}
use Rattle.rpm_pkgdb.proofs.Zeros.{zeros, zeros_more}
use Rattle.rpm_pkgdb.proofs.units.write_zeros.Goals as goal

-- how many units a part of the zeros has
units_count : (some : ℕ) → some ≤ 256 → length (units_of (take (16 * some) (zeros 4096))) ≡ some
units_count some le =
    let bytes = take (16 * some) (zeros 4096) in
    omega (arith, length-cut_up (length bytes / 16) bytes, length-take (16 * some) (zeros 4096), length-replicate {A = ℕ} 4096 0)

-- a write within the range
within : (at count next some : ℕ) (a b : Units) → some ≤ 256 → at ≤ next → next + some ≤ at + count
    → Torn next (units_of (take (16 * some) (zeros 4096))) a b → SameOutside at count a b
within at count next some a b le from to torn =
    let bytes = take (16 * some) (zeros 4096) in
    outside_wider next (length (units_of bytes)) at count a b from (omega (arith, units_count some le)) (torn_outside next (units_of bytes) a b torn)

pub returns-in_err-write_units-clause-writes : goal.returns-in_err-write_units-clause-writes
returns-in_err-write_units-clause-writes g c =
    let at = c.args.at in
    let l = c.loop-next in
    let some = c.min-some.result in
    let le : some ≤ 256 = omega (arith, c.min-some.ensures) in
    let to : l.next + some ≤ at + c.args.count = omega (arith, c.min-some.ensures, l.invariant.to) in
    writes_failed g.D.Disk (writes_then g.D.Disk g.met.D.Disk.follows_trans l.invariant.writes c.in_err-write_units.ensures.writes (omega arith) (λ x y r. r)
    (λ x y z r t. outside_then at c.args.count x y z r (within at c.args.count l.next some y z le l.invariant.from to t)))

pub loop-next-preserved : goal.loop-next-preserved
loop-next-preserved g c =
    let at = c.args.at in
    let l = c.loop-next in
    let some = c.min-some.result in
    let le : some ≤ 256 = omega (arith, c.min-some.ensures) in
    let to : l.next + some ≤ at + c.args.count = omega (arith, c.min-some.ensures, l.invariant.to) in
    record {
      from = omega (arith, l.invariant.from);
      to = to;
      zeros =
          λ told. zeros_more some 4096 l.next at (g.D.Disk.files l.disk).pkg (g.D.Disk.files c.write_units.new.disk).pkg (omega arith)
          (c.in_ok-write_units.ensures.written told) (l.invariant.zeros told);
      writes =
          writes_then g.D.Disk g.met.D.Disk.follows_trans l.invariant.writes c.in_ok-write_units.ensures.writes (omega arith) (λ x y r. r)
          (λ x y z r t. outside_then at c.args.count x y z r (within at c.args.count l.next some y z le l.invariant.from to t));
    }
