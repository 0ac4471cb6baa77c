use Rattle.std.proofs.Common.{◌≡◌, None, subst}
use Rattle.rpm_pkgdb.proofs.Vocabulary.{slot_with, Store}
use Rattle.rpm_pkgdb.proofs.Kept.{zero_absent}
use Rattle.rpm_pkgdb.proofs.store.PkgDb.generation.Goals as goal

pub returns-clause-from_one : goal.returns-clause-from_one
returns-clause-from_one c =
    subst (λ (v : Store). slot_with 0 v.slots ≡ None) c.self.view_is (zero_absent c.self.inside.slots.items c.self.invariant.kept.numbered)
