use Rattle.std.proofs.Common.{◌≡◌, ◌≤◌, ◌<◌, ℕ, ◌+◌, ◌-◌, ◌*◌, List, length, get_or, drop, refl, ap, arith}
use Rattle.std.proofs.lemmas.Nat.{mul-le}
use Rattle.rpm_pkgdb.proofs.Vocabulary.{weights}
use Rattle.rpm_pkgdb.proofs.Sums.{weights_more, weights_none}
use Rattle.rpm_pkgdb.proofs.checksum.weighted.Goals as goal

step : (block : List ℕ) (i weight weighted x : ℕ) → weight + i ≡ length block → i < length block → x ≡ get_or block i 0
    → weighted + weights (drop i block) ≡ weights block → weighted + weight * x + weights (drop (i + 1) block) ≡ weights block
step block i weight weighted x long below is so_far =
    let more = weights_more block i x below is in
    let left : length block - i ≡ weight = omega (arith, long) in
    let e : (length block - i) * x ≡ weight * x = ap (λ (n : ℕ). n * x) left in
    omega (arith, more, e, so_far)

pub loop-x-preserved : goal.loop-x-preserved
loop-x-preserved c =
    let block = c.args.block.now in
    let i = c.loop-x.x-index in
    let weight = c.loop-x.weight in
    let part : weight * get_or block i 0 ≤ 64 * 255 = mul-le weight (get_or block i 0) 64 255 (omega (arith, c.loop-x.invariant.weight)) (omega arith) in
    record {
      weight = omega (arith, c.loop-x.invariant.weight);
      rest = step block i weight c.loop-x.weighted _ (omega (arith, c.told-block, c.loop-x.invariant.weight))
          (omega (arith, c.told-block, c.loop-x-test.true)) refl c.loop-x.invariant.rest;
      few = omega (arith, part, c.loop-x.invariant.few);
    }

pub returns-clause-weighted : goal.returns-clause-weighted
returns-clause-weighted c =
    weights_none c.args.block.now c.loop-x.x-index c.loop-x.weighted (omega (arith, c.told-block, c.loop-x-test.false)) c.loop-x.invariant.rest
