-- What an opened database keeps.
use Rattle.std.specs.Prelude.{◌≡◌, ℕ, ◌<◌, ◌≤◌, Bool, true, false, ◌==◌, is_some, Option, Some, None, Result, Ok, Err}
use Rattle.rpm_outside.specs.Files.{Units}
use Rattle.rpm_pkgdb.specs.declared.slot.Damage.{Damage}
use Rattle.rpm_pkgdb.specs.Slots.{slot_with}
use Rattle.rpm_pkgdb.specs.Store.{Store, store}
use Rattle.rpm_hindex.specs.State as hindex
use Rattle.rpm_db.specs.declared.open_fault.DbOpenFault.{DbOpenFault}
use Rattle.rpm_db.specs.declared.open_fault.DbOpenFault.TheVariants.{Damaged, IndexFull, DiskFault, NoMemory}
use Rattle.rpm_pkgdb.specs.Store as pkgdb
use Rattle.rpm_pkgdb.specs.Costs as costs
use Rattle.rpm_db.specs.Lawful.{HasRows, is_current_at}
use Rattle.rpm_db.specs.State.{packages}

-- a database is its store, the first units of the index where it keeps one, and whether it is stopped: a changing
-- call failed at the disk, or a batch goes on
pub record Database : Type 0 where
  store : Store
  pub index : Option hindex.IndexState
  pub stopped : Bool

-- the room that is left of a database: the one reading of its store
abbrev pub store_of : Database → Store
store_of db = db.store

-- the database of such a store
abbrev pub database_of : Store → Option hindex.IndexState → Bool → Database
database_of value index stopped = record { store = value; index = index; stopped = stopped }

-- a store that was opened without its index
abbrev pub without_index : Store → Database
without_index value = record { store = value; index = None; stopped = false }

-- the generation of its packages, which each change raises by one
abbrev pub generation_of : Database → ℕ
generation_of db = (store_of db).generation

-- a writing call of its store failed
abbrev pub has_failed : Database → Bool
has_failed db = (store_of db).is_stopped

-- whether a database was opened with its index
abbrev pub is_indexed : Database → Bool
is_indexed db = is_some db.index

-- what a value keeps of a file is what the file says
abbrev pub Keeps : Units → Database → Type 0
Keeps file db = pkgdb.KeepsStore file (store_of db)

-- the value of an index is that of Hindex.db as it reads
abbrev pub KeepsUnits : Units → Option hindex.IndexState → Type 0
KeepsUnits idx None = Unit {0}
KeepsUnits idx (Some state) = hindex.KeepsIndexValue idx state

-- a database's index is what Hindex.db says, where one is kept
abbrev pub KeepsIndex : Units → Database → Type 0
KeepsIndex idx db = KeepsUnits idx db.index

-- an index that a value keeps is current at this generation
abbrev pub IsCurrentIndex : ℕ → Option hindex.IndexState → Type 0
IsCurrentIndex generation None = Unit {0}
IsCurrentIndex generation (Some state) = hindex.is_current generation state ≡ true

-- what holds of each value: a blank store has no index, and until a changing call fails the store goes on and the index
-- is current
pub record IsConsistent (store : Store) (index : Option hindex.IndexState) (stopped : Bool) : Type 0 where
  pub made : is_some index ≡ true → 1 ≤ store.pages
  pub going : stopped ≡ false → store.is_stopped ≡ false
  pub order : stopped ≡ false → IsCurrentIndex store.generation index

-- the index of these files is current, and holds the rows of the packages
pub record IsIndexed (pkg idx : Units) (db : Database) : Type 0 where
  pub current : is_current_at (generation_of db) idx ≡ true
  pub rows_are : HasRows (packages pkg (store_of db)) idx

-- no database was made yet
abbrev pub is_blank_database : Database → Bool
is_blank_database db = (store_of db).pages == 0

-- a store has a page: a database was made
abbrev pub IsPaged : Store → Type 0
IsPaged value = 1 ≤ value.pages

-- there is a package of this number, Good or Bad
abbrev pub holds : ℕ → Database → Bool
holds n db = is_some (slot_with n (store_of db).slots)

-- m is the least number above n that is there, and None says that there is none
abbrev pub IsNext : (ℕ → Bool) → ℕ → Option ℕ → Type 0
IsNext there n None = (k : ℕ) → n < k → there k ≡ false
IsNext there n (Some m) = (n < m) × (there m ≡ true) × ((k : ℕ) → n < k → k < m → there k ≡ false)

-- the number that the next new package gets
abbrev pub next_package_number : Database → ℕ
next_package_number db = pkgdb.next_number (store_of db)

-- the bytes of a number's blocks
abbrev pub package_cost : ℕ → Database → ℕ
package_cost n db = costs.cost n (store_of db)

-- a call costs the blocks of all numbers up to this one
abbrev pub packages_cost_to : ℕ → Database → ℕ
packages_cost_to n db = costs.cost_to n (store_of db)

-- a call costs the blocks of all numbers
abbrev pub packages_cost : Database → ℕ
packages_cost db = costs.cost_all (store_of db)

-- what opening answers of this store, without an index
abbrev pub DatabaseOpenIs : Result Store Damage → Result Database DbOpenFault → Type 0
DatabaseOpenIs said (Ok db) = said ≡ Ok (store_of db)
DatabaseOpenIs said (Err (Damaged d)) = said ≡ Err d
DatabaseOpenIs said (Err (IndexFull needed)) = ⊥
DatabaseOpenIs said (Err DiskFault) = Unit {0}
DatabaseOpenIs said (Err NoMemory) = Unit {0}
