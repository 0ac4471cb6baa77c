use Rattle.std.proofs.Common.{length}
use Rattle.rpm_check.proofs.Searching.{LeavesNumbers}
use Rattle.rpm_check.proofs.Vocabulary.{IsSorted, needed_in, offer_order}
use Rattle.rpm_check.proofs.hits.numbers_of_hits.Given as goal

abbrev pub invariant-loop-wanted : goal.invariant-loop-wanted
invariant-loop-wanted l = IsSorted offer_order l.offers → LeavesNumbers (needed_in l.needed) l.offers l.rest l.found.items

abbrev pub decreases-loop-wanted : goal.decreases-loop-wanted
decreases-loop-wanted l = length l.rest
