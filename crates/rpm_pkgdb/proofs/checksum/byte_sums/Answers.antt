use Rattle.std.proofs.Common.{◌%◌, sym, ◌∙◌, refl, arith}
use Rattle.rpm_pkgdb.proofs.Sums.{sums_later, sums_end}
use Rattle.rpm_pkgdb.proofs.checksum.byte_sums.Goals as goal

pub loop-x-preserved : goal.loop-x-preserved
loop-x-preserved c = record {
  low = omega arith;
  high = omega arith;
  same = sums_later c.loop-x.low c.loop-x.high c.args.bytes.now c.loop-x.x-index _ c.loop-x-test.true refl ∙ c.loop-x.invariant.same;
}

pub returns-clause-sums : goal.returns-clause-sums
returns-clause-sums c =
    sym (sums_end (c.loop-x.low % 65521) (c.loop-x.high % 65521) c.args.bytes.now c.loop-x.x-index c.loop-x-test.false) ∙ c.loop-x.invariant.same
