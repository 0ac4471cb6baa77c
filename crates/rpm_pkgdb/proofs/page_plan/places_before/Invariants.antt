use Rattle.rpm_pkgdb.proofs.Vocabulary.{HasPlacesSoFar}
use Rattle.rpm_pkgdb.proofs.page_plan.places_before.Given as goal

abbrev pub invariant-loop-k : goal.invariant-loop-k
invariant-loop-k l = HasPlacesSoFar l.slots l.end l.k l.places.items
