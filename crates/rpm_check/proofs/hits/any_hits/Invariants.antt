use Rattle.std.proofs.Common.{length}
use Rattle.rpm_check.proofs.Searching.{LeavesOf}
use Rattle.rpm_check.proofs.Vocabulary.{hits, IsSorted, needed_in, offer_in, offer_order}
use Rattle.rpm_check.proofs.hits.any_hits.Given as goal

abbrev pub invariant-loop-wanted : goal.invariant-loop-wanted
invariant-loop-wanted l = IsSorted offer_order l.offers → LeavesOf (λ offer. hits (needed_in l.needed) (offer_in offer)) l.offers l.rest

abbrev pub decreases-loop-wanted : goal.decreases-loop-wanted
decreases-loop-wanted l = length l.rest
