use Rattle.std.proofs.Common.{arith}
use Rattle.rpm_qfeval.proofs.Encodings.{length-hex}
use Rattle.rpm_qfeval.proofs.measure.lack_of_hex.Goals as goal

pub returns : goal.returns
returns c = omega (arith, c.lack_of.ensures, length-hex c.args.bytes.now)
