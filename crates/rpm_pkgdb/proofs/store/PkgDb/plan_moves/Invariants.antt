use Rattle.rpm_pkgdb.proofs.Vocabulary.{count_before, HasPlacesBefore, IsPlanning, IsRanged}
use Rattle.rpm_pkgdb.proofs.store.PkgDb.plan_moves.Given as goal

abbrev pub invariant-loop-place : goal.invariant-loop-place
invariant-loop-place l = record {
  ranged : IsRanged l.self.pages l.page;
  planning : IsPlanning l.self.slots l.end l.page;
  places : HasPlacesBefore l.page.slots.items l.end l.places.items;
}

abbrev pub decreases-loop-place : goal.decreases-loop-place
decreases-loop-place l = count_before l.end l.page.slots.items
