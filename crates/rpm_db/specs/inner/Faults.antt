-- A fault of a file, as one of the database.
use Rattle.rpm_pkgdb.specs.declared.slot.OpenFault.{OpenFault}
use Rattle.rpm_pkgdb.specs.declared.slot.OpenFault.TheVariants as of_store
use Rattle.rpm_db.specs.declared.open_fault.DbOpenFault.{DbOpenFault}
use Rattle.rpm_db.specs.declared.open_fault.DbOpenFault.TheVariants.{Damaged, DiskFault, NoMemory}

-- why the store isn't opened
abbrev pub store_fault : OpenFault → DbOpenFault
store_fault (of_store.Damaged damage) = Damaged damage
store_fault of_store.DiskFault = DiskFault
store_fault of_store.NoMemory = NoMemory
