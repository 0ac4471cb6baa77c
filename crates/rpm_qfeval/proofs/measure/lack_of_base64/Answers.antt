use Rattle.std.proofs.Common.{arith}
use Rattle.rpm_qfeval.proofs.Encodings.{length-base64}
use Rattle.rpm_qfeval.proofs.measure.lack_of_base64.Goals as goal

pub returns : goal.returns
returns c = omega (arith, c.lack_of.ensures, c.div_ceil.ensures, length-base64 c.args.bytes.now)
