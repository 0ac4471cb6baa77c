-- A fault of the store, as one of the database.
use Rattle.std.proofs.Common.{Err}
use Rattle.std.specs.Prelude.{Result}
use Rattle.rpm_db.proofs.Vocabulary.{Damage, OpenFault, Store, store_fault, StoreIs}
use Rattle.rpm_pkgdb.specs.Store as pkgdb
use Rattle.rpm_pkgdb.specs.declared.slot.OpenFault.TheVariants as of_store

pub store_told : (said : Result Store Damage) (fault : OpenFault) → pkgdb.OpenIs said (Err fault) → StoreIs said (Err (store_fault fault))
store_told said (of_store.Damaged damage) is = is
store_told said of_store.DiskFault is = tt
store_told said of_store.NoMemory is = tt
