use Rattle.std.proofs.Common.{ap, ◌∙◌, arith, w8, eqb, take}
use lib.Count.{ones}
use Rattle.std.proofs.lemmas.Simd.{bitmask_splat, ones-mask_l, length-chunk}
use Rattle.rpm_header.proofs.Vocabulary.{is_zero, zeros}
use Rattle.rpm_header.proofs.zeros.zeros_of_block.Goals as goal

pub returns-clause-value : goal.returns-clause-value
unfolding zeros
returns-clause-value c =
    let block = take 64 c.args.bytes.now in
    ap ones (bitmask_splat w8 eqb block 64 0 (length-chunk 0 64 c.args.bytes.now (omega arith)) (omega arith)) ∙ ones-mask_l is_zero block
