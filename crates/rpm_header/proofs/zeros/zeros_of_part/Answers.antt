use Rattle.std.proofs.Common.{ap, ◌∙◌, arith, w8, eqb, take}
use lib.Count.{ones}
use Rattle.std.proofs.lemmas.Simd.{bitmask_splat, ones-mask_l, length-chunk}
use Rattle.rpm_header.proofs.Vocabulary.{is_zero, zeros}
use Rattle.rpm_header.proofs.zeros.zeros_of_part.Goals as goal

pub returns : goal.returns
unfolding zeros
returns c =
    let block = take 16 c.args.bytes.now in
    ap ones (bitmask_splat w8 eqb block 16 0 (length-chunk 0 16 c.args.bytes.now (omega arith)) (omega arith)) ∙ ones-mask_l is_zero block
