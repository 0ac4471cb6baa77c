use Rattle.std.proofs.Common.{◌≡◌, ℕ, ◌+◌, ◌*◌, ◌%◌, List, ◌++◌, length, take, sym, ap, ◌∙◌, arith}
use Rattle.rpm_pkgdb.proofs.Vocabulary.{sum, sums, weights}
use Rattle.std.proofs.lemmas.List.{length-take, take-append-drop}
use Rattle.rpm_pkgdb.proofs.Sums.{sums_block}
use Rattle.rpm_pkgdb.proofs.checksum.run_sums.Goals as goal

block_more : (low high total weighted : ℕ) (block more rest : List ℕ) (all : ℕ × ℕ) → rest ≡ block ++ more → length block ≡ 64 → total ≡ sum block
    → weighted ≡ weights block → sums (low % 65521) (high % 65521) rest ≡ all
    → sums ((low + total) % 65521) ((high + (64 * low + weighted)) % 65521) more ≡ all
block_more low high total weighted block more rest all is long total_is weighted_is so_far =
    ap (λ (n : ℕ). sums ((low + n) % 65521) ((high + (64 * low + weighted)) % 65521) more) total_is
    ∙ ap (λ (n : ℕ). sums ((low + sum block) % 65521) ((high + (64 * low + n)) % 65521) more) weighted_is
    ∙ ap (λ (n : ℕ). sums ((low + sum block) % 65521) ((high + (n * low + weights block)) % 65521) more) (sym long)
    ∙ sums_block low high block more rest is
    ∙ so_far

pub loop-block-preserved : goal.loop-block-preserved
loop-block-preserved c =
    let rest = c.loop-block.rest.now in
    let block = c.in-Some.block.now in
    let more = c.in-Some.more.now in
    let cut = c.in-Some.ensures.cases in
    let long : length block ≡ 64 = omega (arith, ap length cut.0, length-take 64 rest, cut.2) in
    let whole : rest ≡ block ++ more =
    sym (ap (λ (l : List ℕ). l ++ more) cut.0 ∙ ap (λ (l : List ℕ). take 64 rest ++ l) cut.1 ∙ take-append-drop 64 rest) in
    record {
      low = omega (arith, c.total-low.ensures.few, cut.2, c.loop-block.invariant.low);
      high = omega (arith, c.weighted.ensures.few, cut.2, c.loop-block.invariant.high, c.loop-block.invariant.low);
      same = block_more c.loop-block.low c.loop-block.high c.total-low.result c.weighted.result block more rest _ whole long c.total-low.ensures.total
          c.weighted.ensures.weighted c.loop-block.invariant.same;
    }
