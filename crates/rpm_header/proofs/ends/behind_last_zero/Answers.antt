use Rattle.std.proofs.Common.{◌-◌, arith}
use Rattle.rpm_header.proofs.Counted.{zeros-behind}
use Rattle.rpm_header.proofs.ends.behind_last_zero.Goals as goal

pub returns-then-bytes-i-eq0 : goal.returns-then-bytes-i-eq0
returns-then-bytes-i-eq0 c = λ k below. zeros-behind (c.loop-i.i - 1) k c.args.bytes.now (omega arith) c.if-bytes-i-eq0.true below
