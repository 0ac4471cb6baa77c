use Rattle.std.proofs.Common.{◌-◌, arith}
use Rattle.rpm_header.proofs.Region.{counted, not_counted}
use Rattle.rpm_header.proofs.index.counts_back.Goals as goal

pub returns-then-below-eq0 : goal.returns-then-below-eq0
returns-then-below-eq0 c = counted c.args.il c.args.n (4294967296 - c.args.n) (omega arith) (omega arith) c.if-below-eq0.true

pub returns-else-below-eq0 : goal.returns-else-below-eq0
returns-else-below-eq0 c = not_counted c.args.il c.args.n (4294967296 - c.args.n) (omega arith) c.if-below-eq0.false
