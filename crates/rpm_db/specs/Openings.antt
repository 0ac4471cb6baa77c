-- What opening with an index answers.
use Rattle.std.specs.Prelude.{IsTrue, ◌≡◌, ℕ, ◌+◌, ◌<◌, ◌≤◌, ◌^◌, Bool, ◌&&◌, true, false, not, ◌==◌, if◌then◌else◌}
use Rattle.std.specs.Prelude.{Result, Ok, Err, IfOk}
use Rattle.rpm_outside.specs.declared.disk.Disk as disk
use Rattle.rpm_outside.specs.declared.disk.File.TheVariants.{Idx, Pkg}
use Rattle.rpm_outside.specs.Changes.{IsDurable}
use Rattle.rpm_outside.specs.Files.{Units, Files}
use Rattle.rpm_pkgdb.specs.declared.slot.Damage.{Damage}
use Rattle.rpm_pkgdb.specs.Costs as costs
use Rattle.rpm_pkgdb.specs.Quiet.{IsQuiet}
use Rattle.rpm_pkgdb.specs.Store.{Store, store}
use Rattle.rpm_hindex.specs.Sizes.{units_for}
use Rattle.rpm_hindex.specs.declared.faults.RewriteFault.{RewriteFault}
use Rattle.rpm_hindex.specs.declared.faults.RewriteFault.TheVariants as rewrite
use Rattle.rpm_db.specs.declared.open_fault.DbOpenFault.{DbOpenFault}
use Rattle.rpm_db.specs.declared.open_fault.DbOpenFault.TheVariants.{Damaged, IndexFull, DiskFault, NoMemory}
use Rattle.rpm_db.specs.Database.{Database, Keeps, KeepsIndex, IsIndexed, holds, is_blank_database, is_indexed}
use Rattle.rpm_db.specs.Database.{store_of}
use Rattle.rpm_db.specs.Lawful.{IsLawful, is_current_at}
use Rattle.rpm_db.specs.Reaches.{ReachesMade}
use Rattle.rpm_db.specs.Rows.{rows}
use Rattle.rpm_db.specs.State.{packages}

-- a store that is opened is this one, or has this first damage
abbrev pub StoreIs : Result Store Damage → Result Store DbOpenFault → Type 0
StoreIs said (Ok value) = said ≡ Ok value
StoreIs said (Err (Damaged d)) = said ≡ Err d
StoreIs said (Err (IndexFull needed)) = Unit {0}
StoreIs said (Err DiskFault) = Unit {0}
StoreIs said (Err NoMemory) = Unit {0}

-- a database that is opened has this store, or this first damage
abbrev pub OpensAs : Result Store Damage → Result Database DbOpenFault → Type 0
OpensAs said (Ok db) = said ≡ Ok (store_of db)
OpensAs said (Err (Damaged d)) = said ≡ Err d
OpensAs said (Err (IndexFull needed)) = Unit {0}
OpensAs said (Err DiskFault) = Unit {0}
OpensAs said (Err NoMemory) = Unit {0}

-- the database isn't blank, and its index isn't current
abbrev pub must_rebuild : Units → Result Store Damage → Bool
must_rebuild idx (Ok value) = not (value.pages == 0) && not (is_current_at value.generation idx)
must_rebuild idx (Err damage) = false

-- the units of an index that is made of its packages
abbrev pub units_needed : Units → Result Store Damage → ℕ
units_needed pkg said = elim said [ Ok value ↦ units_for (rows (packages pkg value)) | Err damage ↦ 0 ]

-- the index is full exactly where it must be made and needs too many units
abbrev pub FullOpenIs : {A : Type 0} → Bool → ℕ → Result A DbOpenFault → Type 0
FullOpenIs making needed (Ok opened) = making ≡ true → needed ≤ 2 ^ 28
FullOpenIs making needed (Err (Damaged d)) = Unit {0}
FullOpenIs making needed (Err (IndexFull told)) = (making ≡ true) × (2 ^ 28 < needed) × (told ≡ needed)
FullOpenIs making needed (Err DiskFault) = Unit {0}
FullOpenIs making needed (Err NoMemory) = Unit {0}

-- nothing was written: the index needn't be made, or there was another fault before
abbrev pub WritesNothing : {A : Type 0} → Bool → Result A DbOpenFault → Type 0
WritesNothing making (Ok opened) = making ≡ false
WritesNothing making (Err (Damaged d)) = Unit {0}
WritesNothing making (Err (IndexFull needed)) = Unit {0}
WritesNothing making (Err DiskFault) = making ≡ false
WritesNothing making (Err NoMemory) = Unit {0}

-- the bytes of all packages, where the index must be made
abbrev pub rebuilding_cost : Units → Result Store Damage → ℕ
rebuilding_cost idx (Ok value) = if must_rebuild idx (Ok value) then costs.cost_all value else 0
rebuilding_cost idx (Err damage) = 0

-- what opening reads at most of Packages.db
abbrev pub OpeningReads : Files → ℕ → ℕ → Type 0
OpeningReads files old new = new ≤ old + costs.opening_cost files.pkg + rebuilding_cost files.idx (store files.pkg)

-- what opening answers of these files, and what it leaves
pub record IsOpened (old new : Files) (result : Result Database DbOpenFault) : Type 0 where
  pub store_is : OpensAs (store old.pkg) result
  pub full : FullOpenIs (must_rebuild old.idx (store old.pkg)) (units_needed old.pkg (store old.pkg)) result
  pub same : WritesNothing (must_rebuild old.idx (store old.pkg)) result → new ≡ old
  pub keeps : IfOk result (λ db. Keeps new.pkg db × KeepsIndex new.idx db)
  pub index : IfOk result (λ db. is_blank_database db ≡ false → IsLawful old.pkg old.idx → IsIndexed new.pkg new.idx db)
  pub made : IfOk result (λ db. must_rebuild old.idx (store old.pkg) ≡ true → IsIndexed new.pkg new.idx db)

-- a value that was opened with an index: it goes on, and has one where a database was made
pub record IsFresh (db : Database) : Type 0 where
  pub from_one : holds 0 db ≡ false
  pub indexed : is_indexed db ≡ not (is_blank_database db)
  pub going : db.stopped ≡ false

module _ {D : Type 0} (d : disk.Ghosts D) where
  -- a database was opened on this disk: both files are durable, and the index is as long as it was or as one that was
  -- made
  pub record IsOpenedOn (old new : D) (db : Database) : Type 0 where
    pub fresh : IsFresh db
    pub quiet : IsTrue d.tells → IsQuiet (store_of db) (d.files new) (d.left_since new (d.moment new))
    pub durable : IsTrue d.tells → IsDurable Pkg (d.files new) (d.left_since new (d.moment new))
    pub index_durable : IsTrue d.tells → IsDurable Idx (d.files new) (d.left_since new (d.moment new))
    pub reach : IsTrue d.tells
        → ReachesMade (units_needed (d.files old).pkg (store (d.files old).pkg)) (d.files old).idx (d.files new).idx

-- ---- making the index

-- there is room for it, and the fault that there is none comes exactly where there is none
abbrev pub FullIs : {A : Type 0} → ℕ → Result A RewriteFault → Type 0
FullIs needed (Ok done) = needed ≤ 2 ^ 28
FullIs needed (Err (rewrite.IndexFull told)) = (2 ^ 28 < needed) × (told ≡ needed)
FullIs needed (Err rewrite.DiskFault) = Unit {0}
FullIs needed (Err rewrite.NoMemory) = Unit {0}

-- a fault that comes of the outside
abbrev pub IsOutsideRebuild : RewriteFault → Type 0
IsOutsideRebuild (rewrite.IndexFull needed) = ⊥
IsOutsideRebuild rewrite.DiskFault = Unit {0}
IsOutsideRebuild rewrite.NoMemory = Unit {0}
