-- A store and its index while one change goes through both: what it asks, its plan, what it leaves.
use Rattle.std.specs.Prelude.{◌≡◌, ◌≢◌, ℕ, ◌+◌, ◌≤◌, max, List, true, false, IsTrue, IsSome, IfSome, Option}
use Rattle.std.specs.Prelude.{None, Result}
use Rattle.std.specs.Ordering.{nat_cmp}
use Rattle.std.specs.FinMap.{FinMap}
use Rattle.rpm_outside.specs.declared.disk.Disk as disk
use Rattle.rpm_outside.specs.declared.disk.File.TheVariants.{Idx}
use Rattle.rpm_outside.specs.Changes.{IsDurable}
use Rattle.rpm_outside.specs.Files.{Files}
use Rattle.rpm_pkgdb.specs.Blobs.{blobs}
use Rattle.rpm_pkgdb.specs.Quiet.{BlobMap, IsQuiet, Represents}
use Rattle.rpm_pkgdb.specs.Slots.{slot_with}
use Rattle.rpm_pkgdb.specs.Store.{KeepsStore, Store, next_number}
use Rattle.rpm_hindex.specs.declared.plan.Work.{Work}
use Rattle.rpm_hindex.specs.Plans.{CanWrite, LeavesOrder, units_after}
use Rattle.rpm_hindex.specs.Rows.{Row}
use Rattle.rpm_hindex.specs.Sizes.{live_of, units_for}
use Rattle.rpm_hindex.specs.State as hindex
use Rattle.rpm_db.specs.declared.change_fault.ChangeFault.{ChangeFault}
use Rattle.rpm_db.specs.Lawful.{HasRows, IsWholeIndex}
use Rattle.rpm_db.specs.Refusals.{BadIndexIs, FullIndexIs}
use Rattle.rpm_db.specs.Rows.{rows}
use Rattle.rpm_db.specs.Runs.{SameFiles}
use Rattle.rpm_db.specs.State.{Package, packages, state}
use Rattle.rpm_db.specs.inner.Writes.{IsSealedAfter, WritesRows, packages_of, state_of}
use Rattle.rpm_db.specs.Frame.{Runs}

-- a number that is there, or that there is a next one
pub record CanTake (n : Option ℕ) (value : Store) : Type 0 where
  pub held : IfSome n (λ m. IsSome (slot_with m value.slots))
  pub left : n ≡ None → next_number value ≢ 4294967295

-- a change of an index of so many units that can be written, and leaves it in order
pub record CanApply (units : ℕ) (work : Work) : Type 0 where
  pub can : CanWrite units work
  pub ordered : LeavesOrder work

-- ---- on a disk

module _ {D : Type 0} (d : disk.Ghosts D) where
  -- a store and its index can be changed: a crash leaves the same packages, and the index is current and durable
  pub record CanChange (at : D) (value : Store) (index : hindex.IndexState) : Type 0 where
    pub going : value.is_stopped ≡ false
    pub made : 1 ≤ value.pages
    pub order : hindex.is_current value.generation index ≡ true
    pub keeps : IsTrue d.tells → KeepsStore (d.files at).pkg value
    pub units : IsTrue d.tells → hindex.KeepsIndexValue (d.files at).idx index
    pub quiet : IsTrue d.tells → IsQuiet value (d.files at) (d.left_since at (d.moment at))
    pub durable : IsTrue d.tells → IsDurable Idx (d.files at) (d.left_since at (d.moment at))

  -- written to the index of some packages, this makes that of others, no longer than need be
  pub record LeadsTo (at : D) (units : ℕ) (before after : FinMap nat_cmp Package) (adds : List Row)
      (work : Work) : Type 0 where
    pub makes : IsTrue d.tells → HasRows before (d.files at).idx
        → WritesRows (rows after) work (d.files at).idx
    pub reach : IsTrue d.tells → HasRows before (d.files at).idx
        → units_after work ≤ max (units + live_of adds) (units_for (rows after))

  -- the index is full exactly where so many units are too many, and bad only where it has a fault, or where these rows,
  -- which go, are more than it counts
  pub record IndexIs {A : Type 0} (at : D) (before : FinMap nat_cmp Package) (drops : List Row) (needed : ℕ)
      (result : Result A ChangeFault) : Type 0 where
    pub full : IsTrue d.tells → HasRows before (d.files at).idx → FullIndexIs needed result
    pub bad : IsTrue d.tells → BadIndexIs drops (d.files at).idx result

  -- the store was written: it has these blobs, after each crash too
  pub record IsStoreWritten (at : D) (value : Store) (to : BlobMap) : Type 0 where
    pub kept : IsTrue d.tells → KeepsStore (d.files at).pkg value
    pub blobs_are : IsTrue d.tells → blobs (d.files at).pkg value ≡ to
    pub quiet : IsTrue d.tells → IsQuiet value (d.files at) (d.left_since at (d.moment at))
    pub stands : IsTrue d.tells → (image : Files) → d.left_since at (d.moment at) image
        → Represents value.generation value.field (blobs (d.files at).pkg value) image.pkg

  -- a change of the index was written, and is sealed at this generation
  pub record IsApplied (old new : D) (before after : hindex.IndexState) (generation : ℕ)
      (work : Work) : Type 0 where
    pub current : hindex.is_current generation after ≡ true
    pub grows : after.units ≤ max before.units (units_after work)
    pub kept : IsTrue d.tells → hindex.KeepsIndexValue (d.files new).idx after
    pub sealed : IsTrue d.tells → IsSealedAfter generation work (d.files old).idx (d.files new).idx
    pub durable : IsTrue d.tells → IsDurable Idx (d.files new) (d.left_since new (d.moment new))

  -- a change was written to both files: these are the blobs and the number field; of an index with so many units at
  -- least
  pub record IsDone (old new : D) (before after : Store) (index : hindex.IndexState) (to : BlobMap)
      (field least : ℕ) : Type 0 where
    pub ready : CanChange new after index
    pub generation_is : after.generation ≡ before.generation + 1
    pub state_is : IsTrue d.tells → state (d.files new).pkg after ≡ state_of to field
    pub stands : IsTrue d.tells → (image : Files) → d.left_since new (d.moment new) image
        → Represents after.generation after.field (blobs (d.files new).pkg after) image.pkg
    pub rows_are : IsTrue d.tells → HasRows (packages (d.files old).pkg before) (d.files old).idx
        → HasRows (packages (d.files new).pkg after) (d.files new).idx
    pub reach : IsTrue d.tells → HasRows (packages (d.files old).pkg before) (d.files old).idx
        → index.units ≤ max least (units_for (rows (packages_of to)))
    pub whole : IsTrue d.tells → IsWholeIndex (d.files old).idx → IsWholeIndex (d.files new).idx

  -- nothing was written or synced: the files stay, and these values
  pub record IsBothRefused (old new : D) (before after : Store) (was is : hindex.IndexState) : Type 0 where
    pub store_is : after ≡ before
    pub index_is : is ≡ was
    pub runs : Runs d SameFiles old new
    pub moment : d.moment new ≡ d.moment old
