use Rattle.std.proofs.lemmas.List.{get_or-replicate}
use Rattle.rpm_header.proofs.ends.no_sums.Goals as goal

pub returns-clause-none : goal.returns-clause-none
returns-clause-none c = λ k below. get_or-replicate 4096 k 0 0 below
