-- Making an index, and a database: what is asked of its store, and what is left.
use Rattle.std.specs.Prelude.{◌≡◌, ℕ, ◌≤◌, [], length, max, true, false, IsTrue, Option}
use Rattle.rpm_outside.specs.declared.disk.Disk as disk
use Rattle.rpm_outside.specs.declared.disk.File.TheVariants.{Pkg, Idx}
use Rattle.rpm_outside.specs.Changes.{IsDurable}
use Rattle.rpm_outside.specs.Files.{blank}
use Rattle.rpm_pkgdb.specs.Quiet.{IsQuiet}
use Rattle.rpm_pkgdb.specs.Store.{KeepsStore, Store}
use Rattle.rpm_hindex.specs.Index.{records}
use Rattle.rpm_hindex.specs.Rows.{SameRows}
use Rattle.rpm_hindex.specs.Sizes.{units_for}
use Rattle.rpm_hindex.specs.State as hindex
use Rattle.rpm_hindex.specs.Whole.{IsWellFormed}
use Rattle.rpm_db.specs.Database.{IsCurrentIndex, KeepsUnits}
use Rattle.rpm_db.specs.Lawful.{HasRows, IsIndexOf, IsLawful, is_current_at}
use Rattle.rpm_db.specs.State.{packages}

module _ {D : Type 0} (d : disk.Ghosts D) where
  -- a store that was made, on durable files
  pub record CanIndex (at : D) (value : Store) : Type 0 where
    pub keeps : IsTrue d.tells → KeepsStore (d.files at).pkg value
    pub made : 1 ≤ value.pages
    pub pkg : IsTrue d.tells → IsDurable Pkg (d.files at) (d.left_since at (d.moment at))
    pub idx : IsTrue d.tells → IsDurable Idx (d.files at) (d.left_since at (d.moment at))

  -- the index is sealed at this generation: a value keeps it, it is that of the packages, and it is durable
  pub record IsSealedHere (at : D) (generation : ℕ) (index : hindex.IndexState) : Type 0 where
    pub current : hindex.is_current generation index ≡ true
    pub kept : IsTrue d.tells → hindex.KeepsIndexValue (d.files at).idx index
    pub index_of : IsTrue d.tells → IsIndexOf (d.files at).pkg (d.files at).idx
    pub durable : IsTrue d.tells → IsDurable Idx (d.files at) (d.left_since at (d.moment at))

  -- the index of a store, current and durable: it holds the rows where the files were lawful, or it was made
  pub record IsIndexFor (old new : D) (value : Store) (index : hindex.IndexState) : Type 0 where
    pub current : hindex.is_current value.generation index ≡ true
    pub kept : IsTrue d.tells → hindex.KeepsIndexValue (d.files new).idx index
    pub durable : IsTrue d.tells → IsDurable Idx (d.files new) (d.left_since new (d.moment new))
    pub rows_are : IsTrue d.tells → IsLawful (d.files old).pkg (d.files old).idx
        → HasRows (packages (d.files new).pkg value) (d.files new).idx
    pub made : IsTrue d.tells → is_current_at value.generation (d.files old).idx ≡ false
        → HasRows (packages (d.files new).pkg value) (d.files new).idx

  -- an index was made of the packages, current at this generation; both files are durable
  pub record IsRemade (at : D) (generation : ℕ) (index : Option hindex.IndexState) : Type 0 where
    pub order : IsCurrentIndex generation index
    pub kept : IsTrue d.tells → KeepsUnits (d.files at).idx index
    pub index_of : IsTrue d.tells → IsIndexOf (d.files at).pkg (d.files at).idx
    pub pkg : IsTrue d.tells → IsDurable Pkg (d.files at) (d.left_since at (d.moment at))
    pub durable : IsTrue d.tells → IsDurable Idx (d.files at) (d.left_since at (d.moment at))

  -- a blank store, on a durable Packages.db
  pub record CanMake (at : D) (value : Store) : Type 0 where
    pub going : value.is_stopped ≡ false
    pub blank : value.pages ≡ 0
    pub keeps : IsTrue d.tells → KeepsStore (d.files at).pkg value
    pub pkg : IsTrue d.tells → IsDurable Pkg (d.files at) (d.left_since at (d.moment at))

  -- an index of no rows was written and is durable, without a seal; it is as long as it was or as one that was made
  pub record IsEmptyIndex (old new : D) (index : hindex.IndexState) : Type 0 where
    pub voided : index.first ≡ blank
    pub ordered : hindex.is_ordered index.pending index.second index.units ≡ true
    pub kept : IsTrue d.tells → hindex.KeepsIndexValue (d.files new).idx index
    pub whole : IsTrue d.tells → IsWellFormed index.pending (d.files new).idx
    pub rows : IsTrue d.tells → SameRows [] (records index.pending (d.files new).idx)
    pub durable : IsTrue d.tells → IsDurable Idx (d.files new) (d.left_since new (d.moment new))
    pub reach : IsTrue d.tells → index.units ≤ max (length (d.files old).idx) (units_for [])

  -- a database was made empty: both files are there, with an index of no rows that is current
  pub record IsMadeEmpty (at : D) (value : Store) (index : hindex.IndexState) : Type 0 where
    pub kept : IsTrue d.tells → KeepsStore (d.files at).pkg value
    pub quiet : IsTrue d.tells → IsQuiet value (d.files at) (d.left_since at (d.moment at))
    pub current : hindex.is_current 1 index ≡ true
    pub units : IsTrue d.tells → hindex.KeepsIndexValue (d.files at).idx index
    pub index_of : IsTrue d.tells → IsIndexOf (d.files at).pkg (d.files at).idx
    pub durable : IsTrue d.tells → IsDurable Idx (d.files at) (d.left_since at (d.moment at))
