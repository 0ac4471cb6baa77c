use Rattle.std.proofs.Common.{arith, nat_eq, take, w8}
use Rattle.std.proofs.lemmas.Simd.{bitmask_splat}
use Rattle.std.proofs.lemmas.List.{length-take}
use Rattle.rpm_header.proofs.Near.{first_near}
use Rattle.rpm_header.proofs.bytes.end_in_front.Goals as goal

pub returns : goal.returns
returns c =
    let bytes = c.args.bytes.now in
    first_near bytes _ c.min.result c.requires
    (bitmask_splat w8 nat_eq (take 16 bytes) 16 0 (omega (arith, length-take 16 bytes)) (omega arith))
    c.min.ensures
