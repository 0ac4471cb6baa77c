use Rattle.rpm_pkgdb.proofs.Vocabulary.{IsFirstSoFar}
use Rattle.rpm_pkgdb.proofs.page_plan.first_before.Given as goal

abbrev pub invariant-loop-i : goal.invariant-loop-i
invariant-loop-i l = IsFirstSoFar l.slots l.places l.end l.i l.first l.least
