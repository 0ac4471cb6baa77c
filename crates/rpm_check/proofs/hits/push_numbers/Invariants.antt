use Rattle.std.proofs.Common.{◌≡◌, ◌++◌, map, take}
use Rattle.rpm_check.proofs.hits.push_numbers.Given as goal

abbrev pub invariant-loop-offer : goal.invariant-loop-offer
invariant-loop-offer l = l.found.items ≡ l.initial.found.items ++ map (λ offer. offer.number) (take l.offer-index l.offers)
