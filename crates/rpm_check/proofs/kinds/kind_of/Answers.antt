use Rattle.std.proofs.Common.{rules}
use Rattle.rpm_check.specs.inner.Kinds.{offer_kind}
use Rattle.rpm_check.proofs.kinds.kind_of.Goals as goal

pub returns : goal.returns
unfolding offer_kind
returns c = search rules
