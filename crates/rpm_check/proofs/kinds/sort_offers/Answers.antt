use Rattle.std.proofs.Common.{rules}
use Rattle.std.proofs.lemmas.List.Sorted.{answers_always}
use Rattle.std.specs.Ordering.{is_lt}
use Rattle.rpm_check.specs.inner.Kinds.{offer_order}
use Rattle.rpm_check.proofs.Ranking.{offers_rank}
use Rattle.rpm_check.proofs.kinds.sort_offers.Goals as goal

pub returns-clause-sorted : goal.returns-clause-sorted
returns-clause-sorted c =
    c.sort_unstable_by.ensures.sorted (λ a b. is_lt (offer_order a b)) offers_rank (answers_always _ _ _ (λ f a r f' called. search rules))
