use Rattle.std.proofs.Common.{◌≡◌, ◌++◌, length, map}
use Rattle.rpm_check.proofs.Vocabulary.{filter, is_named, offer_in, range_of, ranges_beside}
use Rattle.rpm_check.proofs.offers.push_offers.Given as goal

abbrev pub invariant-loop-provided : goal.invariant-loop-provided
invariant-loop-provided l =
    map offer_in l.offers.items ++ map (λ r. (l.number, r)) (map range_of (filter (is_named l.name) l.left))
    ≡ map offer_in l.initial.offers.items ++ ranges_beside l.number l.name l.view

abbrev pub decreases-loop-provided : goal.decreases-loop-provided
decreases-loop-provided l = length l.left
